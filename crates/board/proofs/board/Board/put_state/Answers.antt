use Rattle.std.proofs.Common.{◌∙◌, rules, drop, length, subst, sym}
use Rattle.board.specs.declared.board.Board.TheInside.{Inside}
use Rattle.board.specs.BoardState.{brought_to}
use Rattle.board.specs.Inner.Holds.{Holds, state_of}
use Rattle.board_space.specs.Valid.{IsStateFor}
use Rattle.board.specs.View.{State}
use Rattle.board_space.proofs.ListLemmas.{whole}
use Rattle.board.proofs.StateLemmas.{holds_brought}
use Rattle.board.proofs.board.Board.put_state.Goals as goal

pub invariant_of-self : goal.invariant_of-self
invariant_of-self g c =
    let board = c.self.inside in
    let s = c.args.s.now in
    let fits = subst (λ (b : State). IsStateFor b.view.space.plan s) (sym c.self.view_is) c.requires in
    let all = whole c.self-inside.inside.0.0.len c.bring_all_to.new.harts
    (drop (length c.bring_all_to.new.harts) c.self-inside.inside.0.0.items) (search rules) (search rules)
    ∙ c.bring_all_to.ensures in
    rw (all, c.bring_to.ensures, c.reserve_all.ensures, c.bring_to-2.ensures, c.items.ensures, c.items-2.ensures)
    (subst
    (λ (b : Inside g.row.D.Denot). Holds (brought_to (state_of b.harts.items b.next b.watch b.bus).view s))
    (sym c.self-inside.view_is)
    (holds_brought (state_of board.harts.items board.next board.watch board.bus).view s fits))
