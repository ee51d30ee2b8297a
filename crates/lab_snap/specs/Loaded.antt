-- The laboratory that a snapshot holds.
use Rattle.std.specs.Prelude.{ℕ, suc, List, [], ◌∷◌, map}
use Rattle.std.specs.Option.{option_map}
use Rattle.board.specs.BoardState.{brought_to}
use Rattle.board.specs.New.{new_board}
use Rattle.board.specs.View.{View}
use Rattle.lab_state.specs.Board.{Board}
use Rattle.lab_state.specs.Hub.{Hub}
use Rattle.lab_state.specs.Lab.{Lab}
use Rattle.lab_snap.specs.declared.hub.SavedHub.{SavedHub}
use Rattle.lab_snap.specs.declared.lab.SavedBoard.{SavedBoard}
use Rattle.lab_snap.specs.declared.lab.SavedLab.{SavedLab}
use Rattle.lab_snap.specs.Machine.{Machine}

-- a board of this number, made by the plan, with these memories, and brought to the state
abbrev pub loaded_view : ℕ → Machine → View
loaded_view number m =
    let v = brought_to (new_board number m.plan) m.state in
    record v { space = record v.space { memories = m.memories } }

abbrev pub loaded_board : ℕ → SavedBoard → Board
loaded_board number board = record { name = board.name; view = option_map (loaded_view number) board.machine }

-- the boards have their places as numbers
unfoldable pub loaded_boards : ℕ → List SavedBoard → List Board
loaded_boards number [] = []
loaded_boards number (board ∷ boards) = loaded_board number board ∷ loaded_boards (suc number) boards

abbrev pub loaded_hub : SavedHub → Hub
loaded_hub hub = record { name = hub.name; kind = hub.kind; delay = hub.delay; members = hub.members }

abbrev pub loaded : SavedLab → Lab
loaded s = record {
  boards = loaded_boards 0 s.boards;
  hubs = map loaded_hub s.hubs;
  pending = s.pending;
  now = s.time.0;
  quantum = s.quantum;
}
