use Rattle.lab_encoding.specs.Inner.Laws.{appended}
use Rattle.lab_encoding.specs.DeviceStates.{can_form}
use Rattle.lab_encoding.proofs.device_states.CanStateSpelled.encode.Goals as goal

pub returns-clause-spelled : goal.returns-clause-spelled
unfolding can_form
returns-clause-spelled c =
    appended c.in_ok-encode.ensures.spelled
    (appended c.in_ok-encode-2.ensures.spelled
    (appended c.in_ok-encode-3.ensures.spelled
    (appended c.in_ok-encode-4.ensures.spelled
    (appended c.in_ok-encode-5.ensures.spelled
    (appended c.in_ok-encode-6.ensures.spelled
    (appended c.in_ok-encode-7.ensures.spelled
    (appended c.in_ok-encode-8.ensures.spelled
    (appended c.in_ok-encode-9.ensures.spelled
    (appended c.in_ok-encode-10.ensures.spelled
    (appended c.in_ok-encode-11.ensures.spelled
    (appended c.in_ok-encode-12.ensures.spelled c.in_ok-encode-13.ensures.spelled)))))))))))
