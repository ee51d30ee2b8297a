use Rattle.floor_run.specs.Inner.Round.{Finished}
use Rattle.floor_run.proofs.RoundLemmas.{pairs_more}
use Rattle.floor_run.proofs.round.finish_all.Goals as goal

pub loop-cell-preserved : goal.loop-cell-preserved
loop-cell-preserved g c =
    pairs_more (Finished g.J.Job.meaning g.J.Job.sent g.J.Job.state_after) c.loop-cell.yielded c.loop-cell.done.items
    c.push.new.self.items c.in-Some.cell c.in-Some-finish.job c.loop-cell.invariant
    (c.in-Some-cell.job, c.in-Some-cell.is, c.in-Some-finish.ensures) c.in_ok-push.ensures.items
