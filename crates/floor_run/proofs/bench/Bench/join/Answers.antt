use Rattle.std.proofs.Common.{rules, ◌∙◌, ap, arith}
use Rattle.floor_run.proofs.StepLemmas.{join_keeps}
use Rattle.floor_run.proofs.bench.Bench.join.Goals as goal

pub join_seat-requires : goal.join_seat-requires
join_seat-requires g c =
    let is = c.into_seat.ensures.1 in (
      search rules,
      search rules,
      ap (λ m. m.1) is,
      omega (arith, c.self.invariant.0),
      join_keeps _ _ _ _ _ _ _ (ap (λ m. m.0.held) is ∙ c.requires.other.1),
    )
