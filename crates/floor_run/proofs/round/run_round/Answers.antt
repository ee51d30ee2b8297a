use Rattle.std.proofs.Common.{List, ◌++◌, subst}
use Rattle.floor_core.specs.Job.{made, left}
use Rattle.floor_core.specs.Result.{finished}
use Rattle.floor_run.specs.Close.{Closing}
use Rattle.floor_run.specs.Inner.Round.{Ended}
use Rattle.floor_run.specs.Turns.{slots_left, AfterTurns}
use Rattle.floor_run.proofs.RoundLemmas.{round, pairs_map}
use Rattle.floor_run.proofs.round.run_round.Goals as goal

pub returns-clause-jobs : goal.returns-clause-jobs
returns-clause-jobs g c =
    let laws = c.turns_add_up.ensures in
    pairs_map (Ended g.J.Job.meaning g.J.Job.sent g.J.Job.state_after)
    (λ job. finished g.J.Job.state_after (g.J.Job.meaning job)) g.J.Job.meaning (λ x y is. is.job_is)
    c.args.jobs.items c.in_ok-done.done.items
    (round g.J.Job.meaning g.J.Job.sent g.J.Job.state_after laws.turns laws.posts c.args.jobs.items
    c.in_ok-cells.cells.items c.in_ok-done.done.items
    (subst (λ (l : List g.row.J.Denot). Closing (slots_left g.J.Job.meaning)
    (AfterTurns g.J.Job.meaning g.J.Job.sent g.J.Job.state_after) l c.in_ok-cells.cells.items)
    c.in_ok-bench.ensures.starts c.in_ok-cells.ensures)
    c.in_ok-done.ensures)

pub returns-clause-posts : goal.returns-clause-posts
returns-clause-posts g c =
    let laws = c.turns_add_up.ensures in
    pairs_map (Ended g.J.Job.meaning g.J.Job.sent g.J.Job.state_after)
    (λ job. g.J.Job.sent job ++ made (g.J.Job.meaning job) (left (g.J.Job.meaning job))) g.J.Job.sent
    (λ x y is. is.sent_is) c.args.jobs.items c.in_ok-done.done.items
    (round g.J.Job.meaning g.J.Job.sent g.J.Job.state_after laws.turns laws.posts c.args.jobs.items
    c.in_ok-cells.cells.items c.in_ok-done.done.items
    (subst (λ (l : List g.row.J.Denot). Closing (slots_left g.J.Job.meaning)
    (AfterTurns g.J.Job.meaning g.J.Job.sent g.J.Job.state_after) l c.in_ok-cells.cells.items)
    c.in_ok-bench.ensures.starts c.in_ok-cells.ensures)
    c.in_ok-done.ensures)
