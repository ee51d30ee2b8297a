use Rattle.lab_top.proofs.Courses.{end_cut}
use Rattle.lab_top.proofs.run.refuse_words.Goals as goal

pub returns-in-Err-clause-course : goal.returns-in-Err-clause-course
returns-in-Err-clause-course g c =
    rw c.from.ensures
    (end_cut _ _ _ _ _ (rw (← c.usage_line.ensures, ← c.as_bytes.ensures.value) c.in-Err.ensures.part))
