-- Loads and stores: what may be asked of a bus, and what of the answer a register gets.
use Rattle.std.specs.Prelude.{◌≡◌, ℕ, ◌%◌, ◌⊎◌}
use Rattle.std.specs.Int.{w8, w16}
use Rattle.rv_exec.specs.declared.access.Shape.{Shape}
use Rattle.rv_exec.specs.declared.access.Shape.TheVariants.{Unsigned, SignedByte, SignedHalf}
use Rattle.rv_exec.specs.Word.{extended}

-- the widths in bytes of loads and stores (RISC-V Unprivileged ISA 20191213, section 2.6)
abbrev pub IsWidth : ℕ → Type 0
IsWidth width = (width ≡ 1) ⊎ (width ≡ 2) ⊎ (width ≡ 4)

-- an access that a bus may be asked for: of 1, 2 or 4 bytes, at an address that is divisible by this width
abbrev pub IsAccess : ℕ → ℕ → Type 0
IsAccess at width = IsWidth width × (at % width ≡ 0)

-- the word that a register gets of a loaded number (section 2.6)
abbrev pub shaped : Shape → ℕ → ℕ
shaped Unsigned answer = answer
shaped SignedByte answer = extended w8 answer
shaped SignedHalf answer = extended w16 answer
