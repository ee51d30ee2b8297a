use Rattle.std.proofs.Common.{◌∙◌, refl, rules}
use Rattle.std.proofs.lemmas.List.FromFn.{length-map-range_with_len}
use Rattle.board.proofs.HoldLemmas.{holds_passed}
use Rattle.board.proofs.IdleLemmas.{passed_back}
use Rattle.board.proofs.board.Board.let_pass.Goals as goal

pub invariant_of-self : goal.invariant_of-self
invariant_of-self g c =
    rw (
      passed_back c.self.inside.harts.len _ _ c.self.inside.harts.items c.from.result c.args.slots
          c.pass_cycles.ensures.after c.deref_mut.ensures.value (search rules),
      c.from.ensures,
    )
    (holds_passed _ c.self.inside.next c.args.slots c.self.invariant c.self.invariant.next)

pub returns-clause-after : goal.returns-clause-after
returns-clause-after g c =
    c.skip.ensures
    ∙ rw (
      passed_back c.self.inside.harts.len _ _ c.self.inside.harts.items c.from.result c.args.slots
          c.pass_cycles.ensures.after c.deref_mut.ensures.value (search rules),
      c.from.ensures,
      ← c.self.view_is,
    )
    (rw length-map-range_with_len refl)
