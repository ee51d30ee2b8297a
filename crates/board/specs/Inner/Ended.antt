-- How slots of one microsecond end.
use Rattle.std.specs.Prelude.{ℕ, ◌<◌, ◌≤◌}
use Rattle.board.specs.declared.board.slots.Ended.{Ended}
use Rattle.board.specs.declared.board.slots.Ended.TheVariants.{All, Idle, Starved}

-- how many were taken, of those that were asked for
abbrev pub taken_of : ℕ → Ended → ℕ
taken_of count All = count
taken_of count (Idle m) = m
taken_of count (Starved m) = m

-- with an idle one at least one was taken, and where memory ran out not all of them were
abbrev pub HasEnded : ℕ → Ended → Type 0
HasEnded count All = Unit {0}
HasEnded count (Idle m) = (0 < m) × (m ≤ count)
HasEnded count (Starved m) = m < count
