-- The first fault of a list.
use Rattle.std.specs.Prelude.{Bool, if◌then◌else◌, List, [], ◌∷◌, ◌++◌, Option, Some, None, Result, Ok, Err}
use Rattle.repl_read.specs.declared.fault.PlatFault.{PlatFault}

-- a step of a `do` block, which goes on where there is no fault
infixl 10 ◌>>=◌
abbrev pub ◌>>=◌ : {A B : Type 0} → Result A PlatFault → (A → Result B PlatFault) → Result B PlatFault
(Ok x) >>= f = f x
(Err fault) >>= f = Err fault

-- passes where there is no fault
abbrev pub refuse : Option PlatFault → Result (Unit {0}) PlatFault
refuse None = Ok tt
refuse (Some fault) = Err fault

abbrev pub fault_if : Bool → PlatFault → Option PlatFault
fault_if fails fault = if fails then Some fault else None

-- the first of two faults
abbrev pub first_of : Option PlatFault → Option PlatFault → Option PlatFault
first_of None later = later
first_of (Some fault) later = Some fault

-- the fault of the first member of a list that has one, each judged by those before it
abbrev pub first_fault : {X : Type 0} → (List X → X → Option PlatFault) → List X → List X → Option PlatFault
first_fault fault before [] = None
first_fault fault before (x ∷ xs) = first_of (fault before x) (first_fault fault (before ++ x ∷ []) xs)
