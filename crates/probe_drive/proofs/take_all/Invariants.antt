-- Each job is as after some of its slots, the watcher was told of them, and no slot lies before the last one of these.
use Rattle.std.proofs.Common.{◌≡◌, length}
use Rattle.std.specs.List.{AllZip, sum_by}
use Rattle.probe_jobs.specs.Course.{Partly, slots_left}
use Rattle.probe_jobs.specs.Next.{NoneBefore}
use Rattle.probe_jobs.specs.Told.{Follow}
use Rattle.probe_drive.proofs.take_all.Given as goal

abbrev pub invariant-slots : goal.invariant-slots
invariant-slots g l = record {
  began : (g.W.Watcher.told l.watcher).began ≡ l.initial.jobs.items;
  before :
      NoneBefore g.J.Job.meaning g.J.Timed.time (g.W.Watcher.told l.watcher).last l.jobs.items (length l.jobs.items);
  follow : Follow g.J.Job.meaning g.J.Job.sent g.J.Job.state_after (g.W.Watcher.told l.watcher) l.jobs.items;
  stand : AllZip (Partly g.J.Job.meaning g.J.Job.sent g.J.Job.state_after) l.initial.jobs.items l.jobs.items;
}

abbrev pub decreases-slots : goal.decreases-slots
decreases-slots g l = sum_by (slots_left g.J.Job.meaning) l.jobs.items
