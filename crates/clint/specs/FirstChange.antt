-- When the line of the timer interrupt changes next, as long as no register is stored.
use Rattle.std.specs.Prelude.{◌≡◌, ◌≢◌, ℕ, ◌<◌, ◌≤◌}
use Rattle.clint.specs.Clint.{Timer, timer_line}

-- from a microsecond on, and before another, the line is as it is in the first
abbrev pub IsStill : Timer → ℕ → ℕ → Type 0
IsStill c now end = (t : ℕ) → now ≤ t → t < end → timer_line c t ≡ timer_line c now

-- the least microsecond from `now` on at which the line is not as it is at `now`, or `last` where none below it is
pub record IsFirstChange (c : Timer) (now last first : ℕ) : Type 0 where
  pub from : now ≤ first
  pub until : first ≤ last
  pub still : IsStill c now first
  pub changed : first < last → timer_line c first ≢ timer_line c now
