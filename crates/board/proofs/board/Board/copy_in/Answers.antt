use Rattle.std.proofs.Common.{sym, subst}
use Rattle.board.specs.declared.board.Board.TheInside.{Inside}
use Rattle.board.specs.Inner.Holds.{Holds, state_of}
use Rattle.board.proofs.HoldLemmas.{holds_cleared, plan_copies}
use Rattle.board.proofs.board.Board.copy_in.Goals as goal

pub invariant_of-self : goal.invariant_of-self
invariant_of-self g c =
    let held = subst (λ (b : Inside g.row.D.Denot). Holds (state_of b.harts.items b.next b.watch b.bus).view)
    (sym c.self-inside.view_is) c.self.invariant in
    holds_cleared _ c.clear.new.self c.copy_in.new.self held
    (plan_copies c.copy_in.result _ _ _ _ c.copy_in.ensures.ok c.copy_in.ensures.err) c.clear.ensures
