use Rattle.std.proofs.Common.{◌∙◌, ap, sym, subst, rules, drop, length, map}
use Rattle.board.specs.declared.board.Board.TheInside.{Inside}
use Rattle.board.specs.Inner.Holds.{Holds, state_of}
use Rattle.board.specs.New.{reset_core}
use Rattle.board_space.specs.Space.{Space}
use Rattle.board.proofs.HoldLemmas.{holds_reset}
use Rattle.board_space.proofs.ListLemmas.{whole}
use Rattle.board.proofs.board.Board.reset.Goals as goal

pub invariant_of-self : goal.invariant_of-self
invariant_of-self g c =
    let held = subst (λ (b : Inside g.row.D.Denot). Holds (state_of b.harts.items b.next b.watch b.bus).view)
    (sym c.self-inside.view_is) c.self.invariant in
    let all = whole c.self-inside.inside.0.0.len c.reset_all.new.harts
    (drop (length c.reset_all.new.harts) c.self-inside.inside.0.0.items) (search rules) (search rules)
    ∙ c.reset_all.ensures
    ∙ ap (map reset_core) c.deref_mut.ensures.value in
    rw all
    (holds_reset _ c.clear.new.self c.reset.new.self held
    (ap {A = Space} (λ s. s.plan) c.reset.ensures) c.clear.ensures)
