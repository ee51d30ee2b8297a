use Rattle.board_job.proofs.RanLemmas.{all_ran}
use Rattle.board_job.proofs.round.run_boards_in_order.Goals as goal

pub returns : goal.returns
returns g c =
    all_ran c.turns_are_stretches.ensures c.args.board_jobs.items c.in_ok-done.done.items c.requires.posts
    c.requires.entries c.in_ok-done.ensures.jobs c.in_ok-done.ensures.posts
