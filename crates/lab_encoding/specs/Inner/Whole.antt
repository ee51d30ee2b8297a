-- The value that all the bytes spell.
use Rattle.std.specs.Prelude.{◌≡◌, ◌==◌, ℕ, List, length, Option, Some, None, Result, Ok, Err, if◌then◌else◌}
use Rattle.lab_encoding.specs.declared.fault.SnapFault.{SnapFault}
use Rattle.lab_encoding.specs.declared.fault.SnapFault.TheVariants.{Bad, Memory}
use Rattle.lab_encoding.specs.Combine.{◌>>=◌}
use Rattle.lab_encoding.specs.Form.{Form}

-- nothing is left
abbrev pub whole : {X : Type 0} → X × List ℕ → Option X
whole read = if length read.1 == 0 then Some read.0 else None

abbrev pub value_of : {X : Type 0} → Form X → List ℕ → Option X
value_of f bytes = f.parse bytes >>= whole

-- what a function returned is that value, or that there is none, unless memory ran out
abbrev pub Gives : {X : Type 0} → Option X → Result X SnapFault → Type 0
Gives value (Ok x) = value ≡ Some x
Gives value (Err Bad) = value ≡ None
Gives value (Err Memory) = Unit {0}
