-- The jobs so far are taken back, and the other boards and grants are as they were.
use Rattle.std.proofs.Common.{◌≡◌, ◌++◌, length, map}
use Rattle.std.specs.List.{flat_map}
use Rattle.log_merge.specs.Merge.{all_entries}
use Rattle.board_job.specs.BoardJob.{BoardJob}
use Rattle.lab_state.specs.Inner.Lending.{put_back, each_by, its_grant}
use Rattle.lab_state.proofs.LendLemmas.{sent_of}
use Rattle.lab_state.proofs.lending.take_all_back.Given as goal

abbrev pub invariant-loop-job : goal.invariant-loop-job
invariant-loop-job g l = record {
  n : l.n ≡ length l.yielded;
  source : l.source ≡ record l.fn.source { handles = each_by its_grant l.fn.source.handles l.yielded };
  boards : l.boards ≡ each_by put_back l.fn.boards l.yielded;
  boss : l.boss ≡ record l.fn.boss { taken = l.fn.boss.taken ++ map sent_of l.yielded };
  entries : all_entries l.entries.items ≡ flat_map (λ (p : BoardJob). p.board.entries) l.yielded;
}
