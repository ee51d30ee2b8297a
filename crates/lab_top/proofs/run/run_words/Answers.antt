use Rattle.std.proofs.Common.{map, string_bytes, refl}
use Rattle.lab_top.proofs.Courses.{course_none}
use Rattle.lab_top.proofs.Openings.{unread_words, words_generated, words_refused}
use Rattle.lab_top.proofs.run.run_words.Goals as goal

pub returns-in-Err-Usage-clause-course : goal.returns-in-Err-Usage-clause-course
returns-in-Err-Usage-clause-course g c = λ held is kept told.
    words_refused held kept (map string_bytes c.args.words.now) c.in-Err-Usage.cause
    (rw c.in-Err-Usage.field-0-is at c.in-Err-Usage.ensures.read) refl (record { used = refl; told = told })
    (rw c.in-Err-Usage.field-0-is at c.refuse_words.ensures.course)

pub returns-clause-course : goal.returns-clause-course
returns-clause-course g c = λ held is kept told.
    course_none _ refl refl (record { used = refl; told = told })

pub returns-clause-refused : goal.returns-clause-refused
returns-clause-refused g c = unread_words _ _

pub returns-in-Ok-Generated-clause-course : goal.returns-in-Ok-Generated-clause-course
returns-in-Ok-Generated-clause-course g c = λ held is kept told.
    words_generated held kept (map string_bytes c.args.words.now) c.in-Ok-Generated.seed c.in-Ok-Generated.boards
    (rw c.in-Ok-Generated.field-0-is at c.in-Ok-Generated.ensures.read) refl (record { used = refl; told = told })
    c.run_generated.ensures.course
