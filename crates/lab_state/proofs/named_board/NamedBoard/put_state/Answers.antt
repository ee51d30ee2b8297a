-- The board can have the state.
use Rattle.std.proofs.Common.{◌∙◌, sym, ap}
use Rattle.std.specs.Option.{option_map}
use Rattle.board.specs.View.{State}
use Rattle.lab_state.specs.Board.{Board}
use Rattle.lab_state.proofs.named_board.NamedBoard.put_state.Goals as goal

pub put_state-requires : goal.put_state-requires
put_state-requires g c =
    c.requires c.in-Some.board.view
    (ap (λ (b : Board). b.view) (sym c.self.view_is) ∙ ap (option_map (λ (s : State). s.view)) c.in-Some.is)
