-- Commands that enter a body.
use Rattle.std.specs.Prelude.{ℕ, nat_lt, List, length, Result, Ok}
use Rattle.std.specs.FinMap.{get}
use Rattle.lab_io.specs.Held.{Held}
use Rattle.lab_io.specs.Whole.{FileText, Missing, Large, Broken, Readable, file_text}
use Rattle.lab_num.specs.Depth.{depth_limit}
use Rattle.resc_vars.specs.declared.cause.ScriptCause.{ScriptCause}
use Rattle.resc_vars.specs.declared.cause.ScriptCause.TheVariants.{Depth, Size, Utf8}
use Rattle.resc_vars.specs.Bodies.{enter, run_of, source_of}
use Rattle.resc_vars.specs.Script as script
use Rattle.monitor.specs.declared.fault.Cause.TheVariants.{Script}
use Rattle.monitor.specs.Answer.{Answer, Faults, Misses, Did, Done, leaves, answer_at, reads, refused}
use Rattle.monitor.specs.Refusal.{◌>>=◌, require}
use Rattle.monitor.specs.State.{State, LinePlace}

-- a body is entered, unless it is refused
abbrev pub entered : State → Result script.State ScriptCause → Result Done ScriptCause
entered s flow = do
  after ← flow
  Ok (leaves (record s { flow = after }))

-- runMacro $name
abbrev pub run_macro : State → List ℕ → Result Done ScriptCause
run_macro s name = entered s (run_of s.flow name)

-- what a file holds is entered; one that is not UTF-8 is refused at its own line
abbrev pub include_text : State → LinePlace → List ℕ → FileText → Answer
include_text s place path Missing = Misses
include_text s place path Large = refused place Size
include_text s place path (Broken line) = Faults (record { file = path; line = line; cause = Script Utf8 })
include_text s place path (Readable bytes) = answer_at place (entered s (enter s.flow (source_of path bytes)))

-- include @path
abbrev pub include : Held → State → LinePlace → List ℕ → Did
include held s place path =
    reads place path (require (nat_lt (length s.flow.outer) depth_limit) Depth) (λ _.
    include_text s place path (file_text (get held path)))
