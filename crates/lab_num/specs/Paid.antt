-- What a grant of time pays a board, and when its slots lie.
use Rattle.std.specs.Prelude.{ℕ, ◌+◌, ◌-◌, ◌*◌, ◌/◌}

-- the number of slots that a grant from one microsecond to another pays at a speed in MIPS, slots a microsecond
abbrev pub paid : ℕ → ℕ → ℕ → ℕ
paid from to speed = (to - from) * speed

-- the microsecond in which slot k of a grant lies
abbrev pub slot_at : ℕ → ℕ → ℕ → ℕ
slot_at from speed k = from + k / speed
