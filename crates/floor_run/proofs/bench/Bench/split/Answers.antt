use Rattle.std.proofs.Common.{rules, arith}
use Rattle.floor_run.proofs.StepLemmas.{split_keeps}
use Rattle.floor_run.proofs.bench.Bench.split.Goals as goal

pub split_seat-seat-requires : goal.split_seat-seat-requires
split_seat-seat-requires g c =
    let a = c.self.view_is in
    let b = c.hand.view_is in
    let i = c.self.invariant in
    (search rules, omega arith, split_keeps _ _ _ _ _)
