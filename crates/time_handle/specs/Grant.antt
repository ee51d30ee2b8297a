-- Grants of time, as the time framework of Renode has them.
use Rattle.std.specs.Prelude.{ℕ, ◌-◌}
use Rattle.lab_num.specs.Paid.{paid, slot_at}

-- the time from one microsecond to another, granted to a board of so many slots a microsecond, of which it has used
-- some
pub record Grant : Type 0 where
  pub from : ℕ
  pub to : ℕ
  pub speed : ℕ
  pub used : ℕ

-- a grant of which nothing is used
abbrev pub fresh : ℕ → ℕ → ℕ → Grant
fresh from to speed = record { from = from; to = to; speed = speed; used = 0 }

-- the slots that a grant pays for
abbrev pub paid_by : Grant → ℕ
paid_by g = paid g.from g.to g.speed

-- those that are left
abbrev pub left : Grant → ℕ
left g = paid_by g - g.used

-- the time that has passed for the board
abbrev pub elapsed : Grant → ℕ
elapsed g = slot_at g.from g.speed g.used
