use Rattle.lab_encoding.specs.Inner.Laws.{appended}
use Rattle.lab_encoding.specs.InterruptStates.{plic_form}
use Rattle.lab_encoding.proofs.interrupt_states.PlicStateSpelled.encode.Goals as goal

pub returns-clause-spelled : goal.returns-clause-spelled
unfolding plic_form
returns-clause-spelled c =
    appended c.in_ok-encode.ensures.spelled
    (appended c.in_ok-encode-2.ensures.spelled
    (appended c.in_ok-encode-3.ensures.spelled
    (appended c.in_ok-encode-4.ensures.spelled c.in_ok-encode-5.ensures.spelled)))
