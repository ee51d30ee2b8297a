-- A reading of a part, unless memory runs out.
use Rattle.std.specs.Prelude.{◌≡◌, Result, Ok, Err}
use Rattle.repl_read.specs.declared.fault.Fault.{Fault}
use Rattle.repl_read.specs.declared.fault.Fault.TheVariants.{Cause, Memory}
use Rattle.repl_read.specs.declared.fault.ReadCause.{ReadCause}

abbrev pub Gives : {X : Type 0} → Result X Fault → Result X ReadCause → Type 0
Gives (Ok x) meant = meant ≡ Ok x
Gives (Err (Cause cause)) meant = meant ≡ Err cause
Gives (Err Memory) meant = Unit {0}
