-- What a function that reads into a place returned.
use Rattle.std.specs.Prelude.{◌≡◌, List, ℕ, Option, Some, None, Result, Ok, Err}
use Rattle.lab_encoding.specs.declared.fault.SnapFault.{SnapFault}
use Rattle.lab_encoding.specs.declared.fault.SnapFault.TheVariants.{Bad, Memory}

-- The value that a function left, with the bytes after it, is what reading gives, unless memory ran out.
abbrev pub ReadsInto : {X : Type 0} → Option (X × List ℕ) → X → List ℕ → Result (Unit {0}) SnapFault → Type 0
ReadsInto read value rest (Ok u) = read ≡ Some (value, rest)
ReadsInto read value rest (Err Bad) = read ≡ None
ReadsInto read value rest (Err Memory) = Unit {0}
