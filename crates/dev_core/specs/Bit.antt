-- The bits of a register.
use Rattle.std.specs.Prelude.{ℕ, ◌==◌, Bool, if◌then◌else◌}
use Rattle.std.specs.Int.{bit_at}

-- whether a bit is 1
abbrev pub is_set : ℕ → ℕ → Bool
is_set byte n = bit_at byte n == 1

-- 1 where a bit holds, or else 0
abbrev pub flag : Bool → ℕ
flag holds = if holds then 1 else 0
