use Rattle.std.proofs.Common.{◌≡◌, ◌∙◌, ◌<◌, ap, sym, subst, refl, true, length}
use Rattle.board.specs.Idle.{all_halted}
use Rattle.board.specs.View.{State}
use Rattle.board.proofs.IdleLemmas.{after_halted}
use Rattle.board.proofs.board.Board.turn.Goals as goal

pub returns-then-all_halted : goal.returns-then-all_halted
returns-then-all_halted g c =
    let below = subst (λ (s : State). s.view.next < length s.view.cores) c.self.view_is c.self.invariant.next in
    let halted = ap all_halted (sym c.deref.ensures.value) ∙ sym c.all_halted.ensures ∙ c.if-all_halted.true in (
      refl,
      after_halted c.args.self.now c.skip.new.self c.args.at.from.0 c.args.at.first c.args.n below
          (subst (λ (s : State). all_halted s.view.cores ≡ true) c.self.view_is halted) c.skip.ensures,
    )
