use Rattle.lab_encoding.specs.Inner.Laws.{appended}
use Rattle.lab_snap.specs.Lab.{lab_form}
use Rattle.lab_snap.proofs.lab.SavedLabSpelled.encode.Goals as goal

pub returns-clause-spelled : goal.returns-clause-spelled
unfolding lab_form
returns-clause-spelled c =
    appended (record { parts = c.in_ok-extend_from_slice.ensures.items })
    (appended c.in_ok-encode.ensures.spelled
    (appended c.in_ok-encode-2.ensures.spelled
    (appended c.in_ok-encode-3.ensures.spelled
    (appended c.in_ok-encode-4.ensures.spelled
    (appended c.in_ok-encode-5.ensures.spelled c.in_ok-encode-6.ensures.spelled)))))
