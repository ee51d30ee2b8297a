-- What one step of a monitor has done whose text goes to an output.
use Rattle.std.specs.Prelude.{◌≡◌, ℕ, List, [], Option}
use Rattle.lab_io.specs.Asked.{AskedNames}
use Rattle.lab_io.specs.Known.{grown}
use Rattle.lab_io.specs.Sink.{IsPartWritten}
use Rattle.monitor.specs.declared.progress.Progress.{Progress}
use Rattle.monitor.specs.declared.progress.Progress.TheVariants.{Done, Cut, Save, Load, End, Fault, Unread, Memory}
use Rattle.monitor.specs.declared.step.Step.{Step}
use Rattle.monitor.specs.declared.step.Step.TheVariants as step
use Rattle.monitor.specs.Answer.{Did}
use Rattle.monitor.specs.State.{State}
use Rattle.monitor.specs.Step.{IsStep}

-- A step has done what a command does and has asked for the names that it reads, or was cut short; and what the
-- command prints was written. Where that was cut short a part of it was written, and what the monitor is left in is not
-- told.
abbrev pub IsProgress : Did → Progress → State → AskedNames → AskedNames → Option (List ℕ) → Option (List ℕ) → Type 0
IsProgress did Done after log log' out out' =
    (text : List ℕ) × IsStep did (step.Text text) after log log' × (out' ≡ grown out text)
IsProgress did (Cut fault) after log log' out out' =
    (text : List ℕ) × (later : State) × IsStep did (step.Text text) later log log' × IsPartWritten out text out'
IsProgress did (Save name file line) after log log' out out' =
    IsStep did (step.Save name file line) after log log' × (out' ≡ out)
IsProgress did (Load name file line) after log log' out out' =
    IsStep did (step.Load name file line) after log log' × (out' ≡ out)
IsProgress did End after log log' out out' = IsStep did step.End after log log' × (out' ≡ out)
IsProgress did (Fault fault) after log log' out out' = IsStep did (step.Fault fault) after log log' × (out' ≡ out)
IsProgress did Unread after log log' out out' = IsStep did step.Unread after log log' × (out' ≡ out)
IsProgress did Memory after log log' out out' = IsStep did step.Memory after log log' × (out' ≡ out)

-- the step after which a monitor is left as after this: one whose text is written says something, and where a write
-- fails the monitor ends as where memory runs out
abbrev pub stands_for : Progress → Step
stands_for Done = step.Text []
stands_for (Cut fault) = step.Memory
stands_for (Save name file line) = step.Save name file line
stands_for (Load name file line) = step.Load name file line
stands_for End = step.End
stands_for (Fault fault) = step.Fault fault
stands_for Unread = step.Unread
stands_for Memory = step.Memory
