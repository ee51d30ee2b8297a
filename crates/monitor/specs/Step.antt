-- What one step of a monitor has done.
use Rattle.std.specs.Prelude.{◌≡◌, ℕ, ◌<◌, ◌≤◌, Bool, true, false, List}
use Rattle.lab_io.specs.Asked.{AskedNames, AsksSome, AsksUpTo}
use Rattle.lab_io.specs.Known.{grown}
use Rattle.resc_vars.specs.Script.{Outcome, next_of}
use Rattle.resc_vars.specs.Script as script
use Rattle.monitor.specs.declared.step.Step.{Step}
use Rattle.monitor.specs.declared.step.Step.TheVariants.{Text, Save, Load, End, Fault, Unread, Memory}
use Rattle.monitor.specs.Answer.{Goes, Saves, Loads, Ends, Faults, Did}
use Rattle.monitor.specs.State.{State, LinePlace}

-- a monitor, by how many workers its boards are run, whether its laboratory is spent, and whether its script has ended
pub record Running : Type 0 where
  pub state : State
  pub workers : ℕ
  pub spent : Bool
  pub ended : Bool

-- a monitor with so many workers that may go on from this state
abbrev pub going : ℕ → State → Running
going workers s = record { state = s; workers = workers; spent = false; ended = false }

-- the line of this number in a file
abbrev pub line_in : List ℕ → ℕ → LinePlace
line_in file line = record { file = file; number = line }

-- a step has done what a command does and has asked for the names that it reads, or was cut short
abbrev pub IsStep : Did → Step → State → AskedNames → AskedNames → Type 0
IsStep did (Text text) after log log' = (did.answer ≡ Goes text after) × (log' ≡ grown log did.names)
IsStep did (Save name file line) after log log' =
    (did.answer ≡ Saves name (line_in file line) after) × (log' ≡ grown log did.names)
IsStep did (Load name file line) after log log' =
    (did.answer ≡ Loads name (line_in file line) after) × (log' ≡ grown log did.names)
IsStep did End after log log' = (did.answer ≡ Ends) × (log' ≡ grown log did.names)
IsStep did (Fault fault) after log log' = (did.answer ≡ Faults fault) × (log' ≡ grown log did.names)
IsStep did Unread after log log' = AsksUpTo did.names log log'
IsStep did Memory after log log' = AsksSome did.names log log'

-- a step was cut short
abbrev pub IsCut : Step → Type 0
IsCut (Text text) = ⊥
IsCut (Save name file line) = ⊥
IsCut (Load name file line) = ⊥
IsCut End = ⊥
IsCut (Fault fault) = ⊥
IsCut Unread = Unit {0}
IsCut Memory = Unit {0}

-- A flow is as what is next in the script leaves it: a line that is given leaves all of it, an end and a refused line
-- the variables and the macros.
abbrev pub IsLeft : Outcome → script.State → Type 0
IsLeft (script.Gives file n text flow) now = now ≡ flow
IsLeft (script.Ends kept) now = now.kept ≡ kept
IsLeft (script.Refuses file n cause kept) now = now.kept ≡ kept

-- The laboratory, the selected board and the open lines of the log are as they were. Variables and macros, and of a
-- line that was taken the bodies too, are as it found them. The script has ended.
pub record IsOver (old new : Running) : Type 0 where
  pub workers : new.workers ≡ old.workers
  pub lab : new.state.lab ≡ old.state.lab
  pub selected : new.state.selected ≡ old.state.selected
  pub lines : new.state.lines ≡ old.state.lines
  pub flow : IsLeft (next_of old.state.flow) new.state.flow
  pub spent : new.spent ≡ false
  pub ended : new.ended ≡ true

-- A command was taken that is for the store, and nothing else was done: the laboratory, the selected board, the open
-- lines, the variables and the macros are as they were. The script goes on.
pub record IsTaken (old new : Running) : Type 0 where
  pub workers : new.workers ≡ old.workers
  pub lab : new.state.lab ≡ old.state.lab
  pub selected : new.state.selected ≡ old.state.selected
  pub lines : new.state.lines ≡ old.state.lines
  pub flow : IsLeft (next_of old.state.flow) new.state.flow
  pub spent : new.spent ≡ false
  pub ended : new.ended ≡ false

-- a step that says something or is for the store leaves a monitor that may go on, with as many workers, and no other
-- does
abbrev pub IsNext : Step → Running → Running → Type 0
IsNext (Text text) old new = (new.spent ≡ false) × (new.ended ≡ false) × (new.workers ≡ old.workers)
IsNext (Save name file line) old new = IsTaken old new
IsNext (Load name file line) old new = IsTaken old new
IsNext End old new = IsOver old new
IsNext (Fault fault) old new = IsOver old new
IsNext Unread old new = IsOver old new
IsNext Memory old new = new.ended ≡ true

-- a step that says something or is for the store has taken a command or more, and 100,000 are taken at most
abbrev pub TakesSome : State → State → Type 0
TakesSome old new = (old.flow.kept.taken < new.flow.kept.taken) × (new.flow.kept.taken ≤ 100000)

abbrev pub IsCounted : Step → State → State → Type 0
IsCounted (Text text) old new = TakesSome old new
IsCounted (Save name file line) old new = TakesSome old new
IsCounted (Load name file line) old new = TakesSome old new
IsCounted End old new = Unit {0}
IsCounted (Fault fault) old new = Unit {0}
IsCounted Unread old new = Unit {0}
IsCounted Memory old new = Unit {0}
