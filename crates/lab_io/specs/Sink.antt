-- What one write has taken, and how much of a piece has been written.
use Rattle.std.specs.Prelude.{◌≡◌, ℕ, ◌≤◌, List, Option, take}
use Rattle.lab_io.specs.Known.{grown, counted}
use Rattle.lab_io.specs.declared.sink.Wrote.{Wrote}
use Rattle.lab_io.specs.declared.sink.Wrote.TheVariants.{Took, Failed, Memory}

-- a write that takes any of so many bytes takes at least one
abbrev pub IsTaken : Wrote → ℕ → Type 0
IsTaken (Took count) size = (1 ≤ count) × (count ≤ size)
IsTaken Failed size = Unit {0}
IsTaken Memory size = Unit {0}

-- how many bytes a write has taken
abbrev pub taken : Wrote → ℕ
taken (Took count) = count
taken Failed = 0
taken Memory = 0

-- a part of the piece, from its front, has been written
pub record IsPartWritten (before : Option (List ℕ)) (piece : List ℕ) (now : Option (List ℕ)) : Type 0 where
  pub count : ℕ
  pub written : now ≡ grown before (take count piece)

-- an exact count of faults after a write: a write that has failed is counted, and no other
abbrev pub write_faults : Wrote → ℕ → ℕ
write_faults (Took count) faults = faults
write_faults Failed faults = counted faults
write_faults Memory faults = faults
