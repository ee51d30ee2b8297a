use Rattle.std.proofs.Common.{append-nil}
use Rattle.lab_top.proofs.Courses.{end_cut}
use Rattle.lab_top.proofs.run.run_generated.Goals as goal

pub returns-clause-course : goal.returns-clause-course
returns-clause-course g c =
    rw c.from.ensures (end_cut _ _ _ _ _ (rw (append-nil, ← c.in-Ok.ensures, ← c.deref.ensures.value)
    c.in-Err.ensures.part))
