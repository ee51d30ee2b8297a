use Rattle.std.proofs.Common.{◌≡◌, All}
use Rattle.floor_run.specs.Bench.{IsHandOf, HoldsNothing}
use Rattle.floor_run.proofs.round.hands_of.Given as goal

abbrev pub invariant-loop : goal.invariant-loop
invariant-loop g l = record {
  same : l.hand ≡ l.initial.hand;
  hands_are : All (λ h. IsHandOf l.bench h × HoldsNothing h) l.hands.items;
}
