-- A laboratory that goes on from where another one has stood.
use Rattle.std.specs.Prelude.{◌≡◌, ℕ, List, map, slice_get, Option, Some, None}
use Rattle.std.specs.List.{zip}
use Rattle.board_space.specs.declared.state.BoardState.{BoardState}
use Rattle.board.specs.BoardState.{brought_to}
use Rattle.board.specs.Valid.{IsStateFor}
use Rattle.board.specs.View.{View}
use Rattle.dev_core.specs.declared.post.Post.{Post}
use Rattle.lab_state.specs.Board.{Board}
use Rattle.lab_state.specs.Lab.{Lab}
use Rattle.lab_state.specs.One.{view_at, with_view}

-- a board is brought to a state, if there is one
abbrev pub resumed_board : Board → Option BoardState → Board
resumed_board board None = board
resumed_board board (Some s) = with_view (λ v. brought_to v s) board

-- each board that has a plan can have the state in its place
abbrev pub FitTheirBoards : List Board → List (Option BoardState) → Type 0
FitTheirBoards boards states =
    (b : ℕ) (v : View) (s : BoardState) → view_at boards b ≡ Some v → slice_get states b ≡ Some (Some s) →
    IsStateFor v.space.plan s

-- at this time, with each board brought to its state, and with these posts that wait
abbrev pub resumed : Lab → ℕ → List (Option BoardState) → List Post → Lab
resumed lab now states pending = record lab {
  boards = map (λ (board, s). resumed_board board s) (zip lab.boards states);
  pending = pending;
  now = now;
}
