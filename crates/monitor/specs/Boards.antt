-- Commands that make, select, equip and reset boards.
use Rattle.std.specs.Prelude.{ℕ, ◌==◌, not, List, [], ◌∷◌, ◌++◌, length, slice_index_or, codes}
use Rattle.std.specs.Prelude.{Option, None, Some, option_and_then, Result, Ok, Err}
use Rattle.std.specs.Fmt.{decimal}
use Rattle.std.specs.Option.{ok_or, option_or}
use Rattle.lab_io.specs.Held.{Held}
use Rattle.lab_num.specs.Numeral.{number_of}
use Rattle.repl_read.specs.declared.fault.PlatFault.{PlatFault}
use Rattle.repl_read.specs.declared.fault.PlatFault.TheVariants as plat_fault
use Rattle.repl_files.specs.declared.fault.FileCause.{FileCause}
use Rattle.repl_files.specs.declared.fault.FileCause.TheVariants as file_cause
use Rattle.repl_files.specs.declared.fault.FileFault.{FileFault}
use Rattle.repl_files.specs.Loading.{Loading, Outcome, Joined, Refused, Oversized, Absent, load}
use Rattle.repl_build.specs.Plan.{built}
use Rattle.sys_bus.specs.declared.plan.BoardPlan.{BoardPlan}
use Rattle.board.specs.New.{new_board, reset}
use Rattle.lab_state.specs.Lab.{Lab}
use Rattle.lab_state.specs.Names.{board_named, is_taken}
use Rattle.lab_state.specs.One.{fitted}
use Rattle.resc_vars.specs.declared.cause.ScriptCause.{ScriptCause}
use Rattle.resc_vars.specs.declared.cause.ScriptCause.TheVariants.{Board, Boards, Taken, Size, Depth, Utf8}
use Rattle.monitor.specs.declared.fault.Cause.{Cause}
use Rattle.monitor.specs.declared.fault.Cause.TheVariants.{Script, Plat}
use Rattle.monitor.specs.declared.fault.ScriptFault.{ScriptFault}
use Rattle.monitor.specs.Answer.{Answer, Goes, Faults, Misses, Did, Done, leaves, refused}
use Rattle.monitor.specs.Refusal.{◌>>=◌, require}
use Rattle.monitor.specs.Selected.{bare, equipped, if_board, with_board}
use Rattle.monitor.specs.State.{State, LinePlace}

-- the name of a board that is made: without a name, `machine-` and its number
abbrev pub board_name : Lab → Option (List ℕ) → List ℕ
board_name lab None = codes "machine-" ++ decimal (length lab.boards)
board_name lab (Some name) = name

-- a laboratory with a board more, which has no platform yet
abbrev pub with_new_board : Lab → List ℕ → Lab
with_new_board lab name = record lab { boards = lab.boards ++ record { name = name; view = None } ∷ [] }

-- a board is made under this name and selected
abbrev pub create_as : State → List ℕ → Result Done ScriptCause
create_as s name = do
  free ← require (not (is_taken s.lab name)) Taken
  room ← require (not (length s.lab.boards == 16)) Boards
  Ok (leaves (record s { lab = with_new_board s.lab name; selected = Some (length s.lab.boards) }))

-- mach create [name]
abbrev pub create : State → Option (List ℕ) → Result Done ScriptCause
create s name = create_as s (board_name s.lab name)

-- the board of this name, and else the board of this number
abbrev pub board_of : Lab → List ℕ → Option ℕ
board_of lab name = option_or (board_named lab name) (option_and_then (if_board lab) (number_of name))

-- mach set name
abbrev pub select : State → List ℕ → Result Done ScriptCause
select s name = do
  b ← ok_or (board_of s.lab name) Board
  Ok (leaves (record s { selected = Some b }))

-- machine Reset
abbrev pub reset_board : State → Result Done ScriptCause
reset_board s = do
  on ← equipped s
  Ok (leaves (with_board s on reset))

-- the cause of a fault of a platform's files
abbrev pub cause_of : FileCause → Cause
cause_of file_cause.Depth = Script Depth
cause_of file_cause.Utf8 = Script Utf8
cause_of file_cause.Size = Script Size
cause_of (file_cause.Platform cause) = Plat cause

-- a fault of a platform's files, which stands in one of them
abbrev pub file_fault : FileFault → ScriptFault
file_fault fault = record { file = fault.file; line = fault.line; cause = cause_of fault.cause }

-- a board is made by its plan
abbrev pub made : State → ℕ → BoardPlan → Done
made s b plan = leaves (record s { lab = fitted s.lab b (new_board b plan) })

-- a board is made by its plan, or refused in the file with the number that the fault names; a definition has no want of
-- memory
abbrev pub equip : State → ℕ → List (List ℕ) → Result BoardPlan PlatFault → Answer
equip s b names (Ok plan) = Goes [] (made s b plan).state
equip s b names (Err (plat_fault.At file line cause)) =
    Faults (record { file = slice_index_or names file []; line = line; cause = Plat cause })
equip s b names (Err plat_fault.Memory) = Misses

-- how a board is equipped with what comes of the loading of its files
abbrev pub equip_loaded : State → LinePlace → ℕ → List (List ℕ) → Outcome → Answer
equip_loaded s place b names (Joined entries) = equip s b names (built entries)
equip_loaded s place b names (Refused fault) = Faults (file_fault fault)
equip_loaded s place b names Oversized = refused place Size
equip_loaded s place b names Absent = Misses

-- a board is equipped, unless the line is refused before a file is read
abbrev pub load_onto : State → LinePlace → Loading → Result ℕ ScriptCause → Did
load_onto s place loading (Ok b) =
    record { names = loading.names; answer = equip_loaded s place b loading.names loading.outcome }
load_onto s place loading (Err cause) = record { names = []; answer = refused place cause }

-- machine LoadPlatformDescription @path
abbrev pub load_platform : Held → State → LinePlace → List ℕ → Did
load_platform held s place path = load_onto s place (load held (length s.flow.outer) path) (bare s)
