-- The widths that the loads of each shape have (RISC-V Unprivileged ISA 20191213, section 2.6).
use Rattle.std.specs.Prelude.{◌≡◌, ℕ}
use Rattle.rv_exec.specs.declared.access.Shape.{Shape}
use Rattle.rv_exec.specs.declared.access.Shape.TheVariants.{Unsigned, SignedByte, SignedHalf}
use Rattle.rv_exec.specs.Access.{IsWidth}

abbrev pub IsWidthOf : Shape → ℕ → Type 0
IsWidthOf Unsigned width = IsWidth width
IsWidthOf SignedByte width = width ≡ 1
IsWidthOf SignedHalf width = width ≡ 2
