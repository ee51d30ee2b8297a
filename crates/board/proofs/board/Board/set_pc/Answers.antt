use Rattle.std.proofs.Common.{◌<◌, ap, sym, subst, refl, length}
use Rattle.rv_hart.specs.Core.{Core}
use Rattle.board.specs.Inner.Holds.{state_of}
use Rattle.board.specs.View.{State}
use Rattle.board.proofs.HoldLemmas.{holds_set}
use Rattle.board.proofs.board.Board.set_pc.Goals as goal

pub invariant_of-self : goal.invariant_of-self
invariant_of-self g c =
    let board = c.self.inside in
    let below = subst (λ (s : State). c.args.hart < length s.view.cores) (sym c.self.view_is) c.requires.hart in
    holds_set (state_of board.harts.items board.next board.watch board.bus).view board.bus.numbers c.from.result
    board.next c.index_mut.result.now c.set_pc.new.self board.watch board.bus.space c.self.invariant refl refl
    (rw c.from.ensures below) c.index_mut.ensures.value
    (record {
      letters = ap {A = Core} (λ core. core.letters) c.set_pc.ensures;
      number = ap {A = Core} (λ core. core.number) c.set_pc.ensures;
    }) refl c.self.invariant.next c.self.invariant.reserved
