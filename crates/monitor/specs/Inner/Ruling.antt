-- What the part of a step that carries out a command has done.
use Rattle.std.specs.Prelude.{◌≡◌, ℕ, ◌<◌, ◌≤◌, true, false, List, length, Some, Result, Ok, Err, Vec}
use Rattle.std.specs.Prelude.{All, Bool, IfOk, IfSome, IsSome, IsTrue}
use Rattle.std.specs.Global.{Global}
use Rattle.std.specs.Option.{ForSome}
use Rattle.lab_io.specs.declared.files.Files.{Ghosts}
use Rattle.lab_io.specs.declared.whole.ReadFault.{ReadFault}
use Rattle.lab_io.specs.declared.whole.ReadFault.TheVariants as read_fault
use Rattle.lab_io.specs.declared.whole.TextFault.{TextFault}
use Rattle.lab_io.specs.declared.whole.TextFault.TheVariants as text_fault
use Rattle.lab_io.specs.Asked.{AskedNames, AsksSome, AsksUpTo}
use Rattle.lab_io.specs.Frame.{OnlyReads}
use Rattle.lab_io.specs.Held.{Held}
use Rattle.lab_io.specs.Known.{grown}
use Rattle.lab_num.specs.declared.key.Member.{Member}
use Rattle.lab_num.specs.Name.{is_name}
use Rattle.sys_bus.specs.declared.plan.BoardPlan.{BoardPlan}
use Rattle.board.specs.Changes.{may_be_shown}
use Rattle.board.specs.View.{View}
use Rattle.lab_state.specs.declared.faults.AddFault.{AddFault}
use Rattle.lab_state.specs.declared.faults.AddFault.TheVariants as add_fault
use Rattle.lab_state.specs.declared.faults.ConnectFault.{ConnectFault}
use Rattle.lab_state.specs.declared.faults.ConnectFault.TheVariants as connect_fault
use Rattle.lab_state.specs.declared.faults.HubNameFault.{HubNameFault}
use Rattle.lab_state.specs.declared.faults.HubNameFault.TheVariants as hub_fault
use Rattle.lab_state.specs.declared.faults.RunCause.{RunCause}
use Rattle.lab_state.specs.declared.faults.RunCause.TheVariants as run_cause
use Rattle.lab_state.specs.Lab.{Lab}
use Rattle.lab_state.specs.One.{changed, kind_at, view_of}
use Rattle.lab_state.specs.Valid.{IsOpen}
use Rattle.elf_load.specs.declared.image.Image.{Image}
use Rattle.repl_build.specs.Plan.{built}
use Rattle.repl_files.specs.declared.fault.LoadFault.{LoadFault}
use Rattle.repl_files.specs.declared.fault.LoadFault.TheVariants as load_fault
use Rattle.repl_files.specs.declared.load.Loaded.{Loaded}
use Rattle.resc_read.specs.declared.command.Command.{Command}
use Rattle.resc_read.specs.declared.command.Command.TheVariants as command
use Rattle.resc_read.specs.declared.command.LineFault.{LineFault}
use Rattle.resc_read.specs.declared.command.LineFault.TheVariants as line_fault
use Rattle.resc_vars.specs.declared.answer.FlowFault.{FlowFault}
use Rattle.resc_vars.specs.declared.answer.FlowFault.TheVariants as flow_fault
use Rattle.resc_vars.specs.declared.cause.ScriptCause.{ScriptCause}
use Rattle.resc_vars.specs.declared.cause.ScriptCause.TheVariants as script_cause
use Rattle.monitor.specs.declared.fault.Cause.{Cause}
use Rattle.monitor.specs.declared.fault.Cause.TheVariants.{Script}
use Rattle.monitor.specs.declared.fault.ScriptFault.{ScriptFault}
use Rattle.monitor.specs.declared.images.Format.{Format}
use Rattle.monitor.specs.declared.images.Format.TheVariants as format
use Rattle.monitor.specs.declared.load.Load.{Load}
use Rattle.monitor.specs.declared.load.Load.TheVariants as load
use Rattle.monitor.specs.declared.step.Step.{Step}
use Rattle.monitor.specs.declared.step.Step.TheVariants as step
use Rattle.monitor.specs.declared.stop.Stop.{Stop}
use Rattle.monitor.specs.declared.stop.Storing.{Storing}
use Rattle.monitor.specs.declared.stop.Storing.TheVariants as storing
use Rattle.monitor.specs.declared.stop.Stop.TheVariants.{Store, Quit, Line, File, Content, Unread, Memory}
use Rattle.monitor.specs.Answer.{Answer, Goes, Saves, Loads, Ends, Faults, Did, Done, answer_at, fault_at, told_at}
use Rattle.monitor.specs.Boards.{equip, file_fault}
use Rattle.monitor.specs.Command.{Work, OnFiles, OnState, OnStore, Quits}
use Rattle.monitor.specs.Images.{elf_image, hex_image, load_read}
use Rattle.monitor.specs.Memory.{write_bytes}
use Rattle.monitor.specs.Selected.{Equipped}
use Rattle.monitor.specs.State.{State, LinePlace}
use Rattle.monitor.specs.Step.{Running}

-- why a script stops where a call is refused
abbrev pub flow_stop : FlowFault → Stop
flow_stop flow_fault.Depth = Line script_cause.Depth
flow_stop flow_fault.Variable = Line script_cause.Variable
flow_stop flow_fault.Memory = Memory

abbrev pub add_stop : AddFault → Stop
add_stop add_fault.Taken = Line script_cause.Taken
add_stop add_fault.Boards = Line script_cause.Boards
add_stop add_fault.Memory = Memory

abbrev pub hub_stop : HubNameFault → Stop
hub_stop hub_fault.Taken = Line script_cause.Taken
hub_stop hub_fault.Memory = Memory

abbrev pub may_stop : RunCause → Stop
may_stop (run_cause.NoPlan board) = Line script_cause.Platform
may_stop run_cause.TooLong = Line script_cause.LabTime

abbrev pub connect_stop : ConnectFault → Stop
connect_stop connect_fault.Name = Line script_cause.Name
connect_stop connect_fault.Kind = Line script_cause.Kind
connect_stop connect_fault.Already = Line script_cause.Connected
connect_stop connect_fault.Memory = Memory

abbrev pub line_stop : LineFault → Stop
line_stop line_fault.Unknown = Line script_cause.Unknown
line_stop line_fault.Arguments = Line script_cause.Arguments
line_stop line_fault.Time = Line script_cause.Time
line_stop line_fault.Memory = Memory

-- a board has this number, and it is the one that is meant
pub record IsBoard (s : State) (meant : Result Equipped ScriptCause) (b : ℕ) : Type 0 where
  pub view : View
  pub seen : view_of s.lab b ≡ Some view
  pub on : meant ≡ Ok (record { number = b; view = view })

-- a device stands on the board of this number, and it may be shown
pub record IsSpeaker (lab : Lab) (b : ℕ) (m : Member) : Type 0 where
  pub board : m.board.0 ≡ b
  pub kind : IsSome (kind_at lab.boards m)
  pub dev : ForSome (view_of lab b) (λ v. m.dev < length v.space.devices)
  pub shown : ForSome (view_of lab b) (λ v. IsTrue (may_be_shown v m.dev))

-- a script stops at this place of a file, or memory ran out
abbrev pub IsFileStop : ScriptFault → Stop → Type 0
IsFileStop fault (Store asked) = ⊥
IsFileStop fault Quit = ⊥
IsFileStop fault (Line cause) = ⊥
IsFileStop fault (File told) = told ≡ fault
IsFileStop fault (Content cause) = ⊥
IsFileStop fault Unread = ⊥
IsFileStop fault Memory = Unit {0}

-- why a script stops where a file is not read
abbrev pub read_stop : ReadFault → Stop
read_stop read_fault.Unread = Unread
read_stop read_fault.TooLarge = Line script_cause.Size
read_stop read_fault.Memory = Memory

-- why a script stops where the text of a file of this name is not read
abbrev pub IsTextStop : List ℕ → TextFault → Stop → Type 0
IsTextStop name text_fault.Unread stop = stop ≡ Unread
IsTextStop name text_fault.TooLarge stop = stop ≡ Line script_cause.Size
IsTextStop name (text_fault.NotText line) stop =
    IsFileStop (record { file = name; line = line; cause = Script script_cause.Utf8 }) stop
IsTextStop name text_fault.Memory stop = stop ≡ Memory

-- why a script stops where a platform's files are not loaded
abbrev pub load_stop : LoadFault → Stop
load_stop (load_fault.At fault) = File (file_fault fault)
load_stop load_fault.TooLarge = Line script_cause.Size
load_stop load_fault.Unread = Unread
load_stop load_fault.Memory = Memory

-- the image of a file of this format, or the fault that is told of it
abbrev pub image_by : Format → List ℕ → Result Image Cause
image_by format.Elf bytes = elf_image bytes
image_by format.Hex bytes = hex_image bytes

-- what comes of bytes that are loaded so onto a board
abbrev pub loaded_by : Load → State → LinePlace → Equipped → List ℕ → Answer
loaded_by (load.Image format) s place on bytes = load_read s place on (image_by format bytes)
loaded_by (load.Bytes at) s place on bytes = answer_at place (write_bytes s on at bytes)

-- a file was read as the image that its bytes mean, or is refused for their fault, or memory ran out
abbrev pub IsImage : Result Image Cause → Result Image Stop → Type 0
IsImage meant (Ok image) = meant ≡ Ok image
IsImage meant (Err (Store asked)) = ⊥
IsImage meant (Err Quit) = ⊥
IsImage meant (Err (Line cause)) = ⊥
IsImage meant (Err (File fault)) = ⊥
IsImage meant (Err (Content cause)) = meant ≡ Err cause
IsImage meant (Err Unread) = ⊥
IsImage meant (Err Memory) = Unit {0}

-- a board was changed, and nothing else
abbrev pub IsChanged : ℕ → (View → View) → Running → Running → Type 0
IsChanged b f old new = new ≡ record old { state = record old.state { lab = changed old.state.lab b f } }

-- a plan was built of entries, or is refused in the file that the fault names, or memory ran out
abbrev pub IsPlan : Loaded → Result BoardPlan Stop → Type 0
IsPlan loaded (Ok plan) = built loaded.entries.items ≡ Ok plan
IsPlan loaded (Err (Store asked)) = ⊥
IsPlan loaded (Err Quit) = ⊥
IsPlan loaded (Err (Line cause)) = ⊥
IsPlan loaded (Err (File fault)) =
    (s : State) (b : ℕ) → equip s b loaded.names.items (built loaded.entries.items) ≡ Faults fault
IsPlan loaded (Err (Content cause)) = ⊥
IsPlan loaded (Err Unread) = ⊥
IsPlan loaded (Err Memory) = Unit {0}

-- the lines that are open stay those of shown UARTs
abbrev pub KeepsOpen : State → State → Type 0
KeepsOpen old new = All (IsOpen old.lab) old.lines → All (IsOpen new.lab) new.lines

-- a monitor that goes on as it did
pub record IsOnward (old new : Running) : Type 0 where
  pub workers : new.workers ≡ old.workers
  pub spent : new.spent ≡ false
  pub ended : new.ended ≡ old.ended
  pub flow : new.state.flow.ended ≡ old.state.flow.ended
  pub kept : new.state.flow.kept ≡ old.state.flow.kept

-- a command that reads no file was carried out or refused as it is ruled, or memory ran out
abbrev pub IsRuled : Result Done ScriptCause → Result (Vec ℕ Global) Stop → Running → Running → Type 0
IsRuled ruling (Ok text) old new =
    (ruling ≡ Ok (record { text = text.items; state = new.state })) × IsOnward old new
IsRuled ruling (Err (Store asked)) old new = ⊥
IsRuled ruling (Err Quit) old new = ⊥
IsRuled ruling (Err (Line cause)) old new = (ruling ≡ Err cause) × (new ≡ old)
IsRuled ruling (Err (File fault)) old new = ⊥
IsRuled ruling (Err (Content cause)) old new = ⊥
IsRuled ruling (Err Unread) old new = ⊥
IsRuled ruling (Err Memory) old new = new.ended ≡ old.ended

-- how a command is answered that is for the store
abbrev pub asks_store : Storing → LinePlace → State → Answer
asks_store (storing.Save name) place s = Saves name place s
asks_store (storing.Load name) place s = Loads name place s

-- a command is answered so, or memory ran out
abbrev pub IsTold : LinePlace → Answer → Result (Vec ℕ Global) Stop → State → Type 0
IsTold place answer (Ok text) after = answer ≡ Goes text.items after
IsTold place answer (Err (Store asked)) after = answer ≡ asks_store asked place after
IsTold place answer (Err Quit) after = answer ≡ Ends
IsTold place answer (Err (Line cause)) after = answer ≡ Faults (fault_at place cause)
IsTold place answer (Err (File fault)) after = answer ≡ Faults fault
IsTold place answer (Err (Content cause)) after = answer ≡ Faults (told_at place cause)
IsTold place answer (Err Unread) after = ⊥
IsTold place answer (Err Memory) after = Unit {0}

-- a command was carried out or refused as it is and has asked for the names that it reads, or was cut short
abbrev pub IsCarried : Did → LinePlace → Result (Vec ℕ Global) Stop → State → AskedNames → AskedNames → Type 0
IsCarried did place (Ok text) after log log' = (did.answer ≡ Goes text.items after) × (log' ≡ grown log did.names)
IsCarried did place (Err (Store asked)) after log log' =
    (did.answer ≡ asks_store asked place after) × (log' ≡ grown log did.names)
IsCarried did place (Err Quit) after log log' = (did.answer ≡ Ends) × (log' ≡ grown log did.names)
IsCarried did place (Err (Line cause)) after log log' =
    (did.answer ≡ Faults (fault_at place cause)) × (log' ≡ grown log did.names)
IsCarried did place (Err (File fault)) after log log' = (did.answer ≡ Faults fault) × (log' ≡ grown log did.names)
IsCarried did place (Err (Content cause)) after log log' =
    (did.answer ≡ Faults (told_at place cause)) × (log' ≡ grown log did.names)
IsCarried did place (Err Unread) after log log' = AsksUpTo did.names log log'
IsCarried did place (Err Memory) after log log' = AsksSome did.names log log'

-- a command that stops the script changes nothing, but where memory ran out
abbrev pub Leaves : Result (Vec ℕ Global) Stop → Running → Running → Type 0
Leaves (Ok text) old new = IsOnward old new
Leaves (Err (Store asked)) old new = new ≡ old
Leaves (Err Quit) old new = new ≡ old
Leaves (Err (Line cause)) old new = new ≡ old
Leaves (Err (File fault)) old new = new ≡ old
Leaves (Err (Content cause)) old new = new ≡ old
Leaves (Err Unread) old new = new ≡ old
Leaves (Err Memory) old new = new.ended ≡ old.ended

-- What a command has done: it is answered as it should be and asked for the names that it reads, or was cut short; if
-- it stops the monitor it has changed nothing, unless memory ran out, and else it keeps the lines that are open,
-- whatever is told of the files; and of files it has only read.
pub record IsDone
    {F : Type 0} (files : Ghosts F) (by : Held → LinePlace → Did) (result : Result (Vec ℕ Global) Stop)
    (old new : Running)
    (before after : F) : Type 0 where
  pub carried : (place : LinePlace) → ForSome (files.held before)
      (λ held. IsCarried (by held place) place result new.state (files.asked before) (files.asked after))
  pub leaves : Leaves result old new
  pub open_lines : IfOk result (λ text. KeepsOpen old.state new.state)
  pub reads : OnlyReads files (result ≡ Err Unread) before after

-- a command that is for the store stops the monitor, which asks for what its answer says
pub record IsForStore (by : LinePlace → Answer) (result : Result (Vec ℕ Global) Stop) (old : Running) : Type 0 where
  pub asked : Storing
  pub stop : result ≡ Err (Store asked)
  pub answer : (place : LinePlace) → by place ≡ asks_store asked place old.state

-- the same of each sort of command
abbrev pub IsWorked :
    {F : Type 0} → Ghosts F → Work → Result (Vec ℕ Global) Stop → Running → Running → F → F → Type 0
IsWorked files (OnFiles by) result old new before after = IsDone files by result old new before after
IsWorked files (OnState ruling) result old new before after = IsRuled ruling result old new × (after ≡ before)
IsWorked files (OnStore by) result old new before after = IsForStore by result old × (new ≡ old) × (after ≡ before)
IsWorked files Quits result old new before after = (result ≡ Err Quit) × (new ≡ old) × (after ≡ before)

-- whether a script ends where the monitor stops so
abbrev pub ends_script : Stop → Bool
ends_script (Store asked) = false
ends_script Quit = true
ends_script (Line cause) = true
ends_script (File fault) = true
ends_script (Content cause) = true
ends_script Unread = true
ends_script Memory = true

-- a line that says something or is for the store lets the script go on, and no other does
abbrev pub IsAfterLine : Step → Running → Running → Type 0
IsAfterLine (step.Text text) old new =
    (new.spent ≡ false) × (new.ended ≡ false) × (new.workers ≡ old.workers)
    × (new.state.flow.kept ≡ old.state.flow.kept)
IsAfterLine (step.Save name file line) old new = new ≡ record old { ended = false }
IsAfterLine (step.Load name file line) old new = new ≡ record old { ended = false }
IsAfterLine step.End old new = new ≡ old
IsAfterLine (step.Fault fault) old new = new ≡ old
IsAfterLine step.Unread old new = new ≡ old
IsAfterLine step.Memory old new = new.ended ≡ true

-- names that a script's commands give are well formed, and numbers are within their limits
abbrev pub IsWithin : Command → Type 0
IsWithin (command.Create name) = IfSome name (λ text. IsTrue (is_name text))
IsWithin (command.UartHub name delay) = IsTrue (is_name name) × (delay.0 ≤ 1000000)
IsWithin (command.CanHub name delay) = IsTrue (is_name name) × (delay.0 ≤ 1000000)
IsWithin (command.Mips cpu value) = IfSome value (λ n. (1 ≤ n) × (n ≤ 1000))
IsWithin (command.Quantum length) = (1 ≤ length.0) × (length.0 ≤ 1000000)
IsWithin _ = Unit {0}
