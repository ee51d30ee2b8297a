use Rattle.floor_run.specs.Bench.{IsHandOf, HoldsNothing}
use Rattle.floor_run.proofs.round.work.Given as goal

abbrev pub invariant-loop : goal.invariant-loop
invariant-loop g l = IsHandOf l.bench l.hand × HoldsNothing l.hand
