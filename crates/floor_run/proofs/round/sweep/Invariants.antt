use Rattle.floor_run.specs.Bench.{IsHandOf, HoldsNothing}
use Rattle.floor_run.proofs.round.sweep.Given as goal

abbrev pub invariant-loop-board : goal.invariant-loop-board
invariant-loop-board g l = IsHandOf l.bench l.hand × HoldsNothing l.hand
