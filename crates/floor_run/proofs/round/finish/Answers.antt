use Rattle.floor_run.proofs.RoundLemmas.{further}
use Rattle.floor_run.proofs.round.finish.Goals as goal

pub loop-board-preserved : goal.loop-board-preserved
loop-board-preserved g c =
    let laws = c.turns_add_up.ensures in
    λ none. further g.J.Job.meaning g.J.Job.sent g.J.Job.state_after laws.turns laws.posts c.args.job
    c.loop-board.job c.in_ok-job.job (c.loop-board.invariant none) c.in_ok-job.ensures
