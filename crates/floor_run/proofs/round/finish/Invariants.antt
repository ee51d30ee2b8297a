use Rattle.std.proofs.Common.{◌≡◌, []}
use Rattle.floor_run.specs.Inner.Round.{Partly}
use Rattle.floor_run.specs.Turns.{slots_left}
use Rattle.floor_run.proofs.round.finish.Given as goal

abbrev pub invariant-loop-board : goal.invariant-loop-board
invariant-loop-board g l =
    (g.J.Job.meaning l.initial.job).unsent ≡ [] →
    Partly g.J.Job.meaning g.J.Job.sent g.J.Job.state_after l.initial.job l.job

abbrev pub decreases-loop-board : goal.decreases-loop-board
decreases-loop-board g l = slots_left g.J.Job.meaning l.job
