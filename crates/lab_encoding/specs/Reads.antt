-- What a function that reads or writes has done.
use Rattle.std.specs.Prelude.{◌≡◌, ℕ, List, ◌++◌, Option, Some, None, Result, Ok, Err}
use Rattle.lab_encoding.specs.declared.fault.SnapFault.{SnapFault}
use Rattle.lab_encoding.specs.declared.fault.SnapFault.TheVariants.{Bad, Memory}

-- what it returned, with the bytes that it left, is what reading gives, unless memory ran out
abbrev pub Reads : {X : Type 0} → Option (X × List ℕ) → List ℕ → Result X SnapFault → Type 0
Reads read rest (Ok x) = read ≡ Some (x, rest)
Reads read rest (Err Bad) = read ≡ None
Reads read rest (Err Memory) = Unit {0}

-- new is old with the text at its end
pub record Appends (old new text : List ℕ) : Type 0 where
  pub parts : new ≡ old ++ text
