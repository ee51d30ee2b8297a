-- A laboratory as a snapshot holds it.
use Rattle.std.specs.Prelude.{ℕ, List, map}
use Rattle.std.specs.Option.{option_map}
use Rattle.board.specs.BoardState.{board_state}
use Rattle.board.specs.View.{View}
use Rattle.log_text.specs.declared.line.OpenLine.{OpenLine}
use Rattle.lab_state.specs.Board.{Board}
use Rattle.lab_state.specs.Hub.{Hub}
use Rattle.lab_state.specs.Lab.{Lab}
use Rattle.lab_snap.specs.declared.hub.SavedHub.{SavedHub}
use Rattle.lab_snap.specs.declared.lab.SavedBoard.{SavedBoard}
use Rattle.lab_snap.specs.declared.lab.SavedLab.{SavedLab}
use Rattle.lab_snap.specs.Lab.{lab_form}
use Rattle.lab_snap.specs.Machine.{Machine}

-- a board that has a plan: the plan, what of the board changes, and its memories
abbrev pub saved_machine : View → Machine
saved_machine v = record { plan = v.space.plan; state = board_state v; memories = v.space.memories }

abbrev pub saved_board : Board → SavedBoard
saved_board board = record { name = board.name; machine = option_map saved_machine board.view }

abbrev pub saved_hub : Hub → SavedHub
saved_hub hub = record { kind = hub.kind; name = hub.name; delay = hub.delay; members = hub.members }

-- a laboratory and its open lines
abbrev pub saved : Lab → List OpenLine → SavedLab
saved lab lines = record {
  time = record { 0 = lab.now };
  quantum = lab.quantum;
  boards = map saved_board lab.boards;
  hubs = map saved_hub lab.hubs;
  pending = lab.pending;
  lines = lines;
}

-- their one spelling
abbrev pub spelling : Lab → List OpenLine → List ℕ
spelling lab lines = lab_form.spell (saved lab lines)

-- all their numbers and bytes fit the types in which they are spelled
abbrev pub IsSpellable : Lab → List OpenLine → Type 0
IsSpellable lab lines = lab_form.Fits (saved lab lines)
