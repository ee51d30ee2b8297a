-- A laboratory while it is loaded.
use Rattle.std.specs.Prelude.{◌≡◌, ℕ, suc, ◌<◌, ◌≤◌, ◌^◌, List, [], ◌∷◌, length, map, Option, Some, IsTrue}
use Rattle.std.specs.List.{All}
use Rattle.std.specs.Option.{option_map}
use Rattle.board_space.specs.declared.state.BoardState.{BoardState}
use Rattle.board.specs.New.{new_board}
use Rattle.board.specs.View.{View}
use Rattle.dev_core.specs.Kind.{row_of}
use Rattle.lab_num.specs.Name.{is_name}
use Rattle.lab_num.specs.Route.{StandOnce}
use Rattle.lab_state.specs.Board.{Board}
use Rattle.lab_state.specs.Hub.{Hub}
use Rattle.lab_state.specs.Lab.{Seen}
use Rattle.lab_state.specs.Names.{AreNames, NamesDiffer}
use Rattle.lab_state.specs.One.{kind_at}
use Rattle.lab_snap.specs.declared.hub.SavedHub.{SavedHub}
use Rattle.lab_snap.specs.declared.lab.SavedBoard.{SavedBoard}
use Rattle.lab_snap.specs.Machine.{Machine}

-- a board with these memories
abbrev pub with_memories : View → List (List ℕ) → View
with_memories v memories = record v { space = record v.space { memories = memories } }

-- a board of this number that is made by its plan and has its memories, before it is brought to its state
abbrev pub made_view : ℕ → Machine → View
made_view number m = with_memories (new_board number m.plan) m.memories

abbrev pub made_board : ℕ → SavedBoard → Board
made_board number board = record { name = board.name; view = option_map (made_view number) board.machine }

-- the boards have their places as numbers
unfoldable pub made_boards : ℕ → List SavedBoard → List Board
made_boards number [] = []
made_boards number (board ∷ boards) = made_board number board ∷ made_boards (suc number) boards

-- the state to which a board is to be brought, if it has a plan
abbrev pub state_in : SavedBoard → Option BoardState
state_in board = option_map (λ m. m.state) board.machine

-- a laboratory with other boards, and with other hubs
abbrev pub with_boards : Seen → List Board → Seen
with_boards seen boards = record seen { lab = record seen.lab { boards = boards } }

abbrev pub with_hubs : Seen → List Hub → Seen
with_hubs seen hubs = record seen { lab = record seen.lab { hubs = hubs } }

-- boards that can be added to a laboratory without boards and hubs
pub record CanBeAdded (boards : List SavedBoard) : Type 0 where
  pub names : All (λ board. IsTrue (is_name board.name)) boards
  pub differ : NamesDiffer (map (λ board. board.name) boards)
  pub few : length boards ≤ 16

-- hubs that can be created beside these boards in a laboratory without hubs
pub record CanBeCreated (boards : List Board) (hubs : List SavedHub) : Type 0 where
  pub kinds : All (λ hub. IsTrue (row_of hub.kind).joins_hubs) hubs
  pub forms : All (λ hub. IsTrue (is_name hub.name)) hubs
  pub delays : All (λ hub. hub.delay ≤ 1000000) hubs
  pub names : AreNames (map (λ board. board.name) boards) (map (λ hub. hub.name) hubs)
  pub few : length hubs < 2 ^ 32
  pub members : All (λ hub. All (λ m. kind_at boards m ≡ Some hub.kind) hub.members) hubs
  pub once : StandOnce (map (λ hub. hub.members) hubs)
