use Rattle.std.proofs.Common.{refl}
use Rattle.lab_top.proofs.Courses.{course_none}
use Rattle.lab_top.proofs.run.run_script.Goals as goal

pub returns-in_default-clause-course : goal.returns-in_default-clause-course
returns-in_default-clause-course g c = λ held is kept told.
    course_none _ refl refl (record { used = refl; told = told })

pub returns-clause-course : goal.returns-clause-course
returns-clause-course g c = λ held is kept told.
    rw (c.in-Ok.ensures, c.as_str.ensures) at (c.take_commands.ensures.course held is kept told)
