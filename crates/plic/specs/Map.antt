-- The memory map of a PLIC (RISC-V PLIC 1.0.0, "Memory Map"): which register stands at an address.
use Rattle.std.specs.Prelude.{ℕ, ◌+◌, ◌-◌, ◌/◌, ◌%◌, ◌==◌, ◌&&◌, nat_le, nat_lt, if◌then◌else◌, List, [], ◌∷◌, Option}
use Rattle.std.specs.Prelude.{Some, None, option_map}
use Rattle.std.specs.Option.{option_or}
use Rattle.plic.specs.declared.register.Register.{Register}
use Rattle.plic.specs.declared.register.Register.TheVariants.{Priority, Pending, Enable, Threshold, Claim}

-- the place of an address in a bank of registers: the address of the first, the way from each to the next, how many
unfoldable pub index_in : ℕ → ℕ → ℕ → ℕ → Option ℕ
index_in first step count at =
    if nat_le first at && (at - first) % step == 0 && nat_lt ((at - first) / step) count
    then Some ((at - first) / step)
    else None

-- a bank of registers, and which register each is
pub record Bank : Type 0 where
  pub first : ℕ
  pub step : ℕ
  pub count : ℕ
  pub register : ℕ → Register

abbrev pub bank : ℕ → ℕ → ℕ → (ℕ → Register) → Bank
bank first step count register = record { first = first; step = step; count = count; register = register }

-- the map of so many sources and contexts; each address is that of one register or of none
abbrev pub banks : ℕ → ℕ → List Bank
banks sources contexts =
    -- the priority of each source
    bank 0x000004 4 sources (λ i. Priority (i + 1)) ∷
    -- which sources are pending, 32 in a word
    bank 0x001000 4 4 (λ i. Pending i) ∷
    -- which sources are enabled in each context, 32 in a word
    bank 0x002000 0x80 contexts (λ i. Enable i 0) ∷
    bank 0x002004 0x80 contexts (λ i. Enable i 1) ∷
    bank 0x002008 0x80 contexts (λ i. Enable i 2) ∷
    bank 0x00200C 0x80 contexts (λ i. Enable i 3) ∷
    -- the threshold of each context
    bank 0x200000 0x1000 contexts (λ i. Threshold i) ∷
    -- where a load claims, and a store completes
    bank 0x200004 0x1000 contexts (λ i. Claim i) ∷
    []

abbrev pub register_in : List Bank → ℕ → Option Register
register_in [] at = None
register_in (b ∷ bs) at = option_or (option_map b.register (index_in b.first b.step b.count at)) (register_in bs at)

-- the register that an access reaches: words alone reach one
unfoldable pub reached : ℕ → ℕ → ℕ → ℕ → Option Register
reached sources contexts at width = if width == 4 then register_in (banks sources contexts) at else None
