use Rattle.std.proofs.Common.{MatchOption}
use Rattle.probe_jobs.specs.Next.{IsNext, NoneLeft}
use Rattle.probe_drive.proofs.earliest.Given as goal

abbrev pub invariant-places : goal.invariant-places
invariant-places g l =
    MatchOption l.best (NoneLeft g.J.Job.meaning l.jobs l.i)
    (λ slot. IsNext g.J.Job.meaning g.J.Timed.time slot l.jobs l.i)
