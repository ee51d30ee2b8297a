-- What a command does.
use Rattle.std.specs.Prelude.{ℕ, nat_lt, if◌then◌else◌, List, [], ◌∷◌, length, Option, None, Some, Result, Ok, Err}
use Rattle.std.specs.FinMap.{get}
use Rattle.lab_io.specs.Held.{Held}
use Rattle.resc_vars.specs.declared.cause.ScriptCause.{ScriptCause}
use Rattle.resc_vars.specs.declared.cause.ScriptCause.TheVariants.{Size}
use Rattle.monitor.specs.declared.fault.Cause.{Cause}
use Rattle.monitor.specs.declared.fault.Cause.TheVariants.{Script}
use Rattle.monitor.specs.declared.fault.ScriptFault.{ScriptFault}
use Rattle.monitor.specs.State.{State, LinePlace}

-- How a command is answered: it prints this and the script goes on so; the laboratory is to be kept under this name, or
-- to be taken back from it, by a command at this place, and the script goes on so; or the script ends, or it is
-- refused, or a name that it reads holds nothing.
pub data Answer : Type 0 where
  Goes : List ℕ → State → Answer
  Saves : List ℕ → LinePlace → State → Answer
  Loads : List ℕ → LinePlace → State → Answer
  Ends : Answer
  Faults : ScriptFault → Answer
  Misses : Answer

-- what a command does: the names of the files that it reads, in order, and its answer
pub record Did : Type 0 where
  pub names : List (List ℕ)
  pub answer : Answer

-- what a command that is not refused prints, and the state after it
pub record Done : Type 0 where
  pub text : List ℕ
  pub state : State

-- a command prints this and changes nothing
abbrev pub says : State → List ℕ → Done
says s text = record { text = text; state = s }

-- a command prints nothing and leaves this
abbrev pub leaves : State → Done
leaves s = record { text = []; state = s }

-- a fault that is told at a line
abbrev pub told_at : LinePlace → Cause → ScriptFault
told_at place cause = record { file = place.file; line = place.number; cause = cause }

-- a fault of a line
abbrev pub fault_at : LinePlace → ScriptCause → ScriptFault
fault_at place cause = told_at place (Script cause)

-- a line is refused
abbrev pub refused : LinePlace → ScriptCause → Answer
refused place cause = Faults (fault_at place cause)

-- the answer to a line, which may be refused
abbrev pub answer_at : LinePlace → Result Done ScriptCause → Answer
answer_at place (Ok done) = Goes done.text done.state
answer_at place (Err cause) = refused place cause

-- a command that reads no file
abbrev pub unread : LinePlace → Result Done ScriptCause → Did
unread place ruling = record { names = []; answer = answer_at place ruling }

-- a command that reads a file of this name, unless it is refused before
abbrev pub reads : {A : Type 0} → LinePlace → List ℕ → Result A ScriptCause → (A → Answer) → Did
reads place name (Ok x) answer = record { names = name ∷ []; answer = answer x }
reads place name (Err cause) answer = record { names = []; answer = refused place cause }

-- how a command goes on with the bytes of a file, of which there may be 16 MiB
abbrev pub with_file : LinePlace → Option (List ℕ) → (List ℕ → Answer) → Answer
with_file place None answer = Misses
with_file place (Some bytes) answer = if nat_lt 16777216 (length bytes) then refused place Size else answer bytes

-- a command that goes on with the bytes of a file of this name, unless it is refused before
abbrev pub loads :
    {A : Type 0} → Held → LinePlace → List ℕ → Result A ScriptCause → (A → List ℕ → Answer) → Did
loads held place name before answer = reads place name before (λ x. with_file place (get held name) (answer x))
