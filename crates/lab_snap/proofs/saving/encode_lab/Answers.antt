use Rattle.lab_encoding.specs.Inner.Laws.{appended}
use Rattle.lab_snap.specs.Lab.{lab_form}
use Rattle.lab_snap.proofs.SavedParts.{time_of}
use Rattle.lab_snap.proofs.saving.encode_lab.Goals as goal

pub returns-clause-spelled : goal.returns-clause-spelled
unfolding lab_form
returns-clause-spelled g c =
    let time = time_of c.now.result c.args.lab.now.lab.now c.now.ensures.value in
    appended (record { parts = c.in_ok-extend_from_slice.ensures.items })
    (appended (rw time at c.in_ok-encode.ensures.spelled)
    (appended (rw c.quantum.ensures.value at c.in_ok-encode-2.ensures.spelled)
    (appended c.in_ok-encode_boards.ensures.spelled
    (appended c.in_ok-encode_hubs.ensures.spelled
    (appended c.in_ok-encode_pending.ensures.spelled c.in_ok-encode_lines.ensures.spelled)))))
