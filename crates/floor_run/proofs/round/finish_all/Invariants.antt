use Rattle.floor_run.specs.Inner.Round.{Pairs, Finished}
use Rattle.floor_run.proofs.round.finish_all.Given as goal

abbrev pub invariant-loop-cell : goal.invariant-loop-cell
invariant-loop-cell g l =
    Pairs (Finished g.J.Job.meaning g.J.Job.sent g.J.Job.state_after) l.yielded l.done.items
