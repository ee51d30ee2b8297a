use Rattle.std.proofs.Common.{◌∙◌, refl}
use Rattle.lab_top.proofs.Openings.{opening_goes, opening_faults, opening_unread, opening_memory}
use Rattle.lab_top.proofs.run.run_file.Goals as goal

pub returns-in-Text-clause-course : goal.returns-in-Text-clause-course
returns-in-Text-clause-course g c = λ held is kept told.
    let opened = rw c.as_str.ensures at (c.in-Text.ensures.opened held is) in
    let course = c.run_script.ensures.course held (c.open.ensures.files.held ∙ is) kept told in
    opening_goes held kept _ _ c.args.request.setting opened.0 refl opened.1 refl course

pub returns-in-Refused-clause-course : goal.returns-in-Refused-clause-course
returns-in-Refused-clause-course g c = λ held is kept told.
    let opened = rw c.as_str.ensures at (c.in-Refused.ensures.opened held is) in
    opening_faults held kept _ c.args.request.setting _ opened.0 opened.1 (record { used = refl; told = told })
    c.tell.ensures.course

pub returns-in-Unread-clause-course : goal.returns-in-Unread-clause-course
returns-in-Unread-clause-course g c = λ held is kept told.
    opening_unread held kept _ c.args.request.setting refl (record { used = refl; told = told })
    (rw c.as_str.ensures at (c.in-Unread.ensures.opened held is))

pub returns-in-Memory-clause-course : goal.returns-in-Memory-clause-course
returns-in-Memory-clause-course g c = λ held is kept told.
    opening_memory held kept _ c.args.request.setting refl (record { used = refl; told = told })
    (rw c.as_str.ensures at (c.in-Memory.ensures.opened held is))
