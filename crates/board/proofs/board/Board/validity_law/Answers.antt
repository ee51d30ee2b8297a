use Rattle.std.proofs.Common.{subst, sym}
use Rattle.board.specs.declared.board.Board.TheInside.{Inside}
use Rattle.board.specs.Inner.Holds.{Holds, state_of}
use Rattle.board.specs.Valid.{IsBoard}
use Rattle.board.specs.View.{State}
use Rattle.board.proofs.StateLemmas.{is_board}
use Rattle.board.proofs.board.Board.validity_law.Goals as goal

pub returns : goal.returns
returns g c =
    let held = subst (λ (b : Inside g.row.D.Denot). Holds (state_of b.harts.items b.next b.watch b.bus).view)
    (sym c.self-inside.view_is) c.self.invariant in
    subst (λ (s : State). IsBoard s.view) c.self.view_is
    (subst (λ (b : Inside g.row.D.Denot). IsBoard (state_of b.harts.items b.next b.watch b.bus).view)
    c.self-inside.view_is
    (is_board _ held c.plan-plan.ensures.fit (rw c.deref.ensures.value at c.sound_harts_law.ensures)
    (rw c.controller_state-controller.ensures.value at c.controller_state-controller.ensures.valid)
    c.shown_devices_law.ensures))
