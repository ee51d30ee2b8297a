use Rattle.lab_encoding.specs.Inner.Laws.{appended}
use Rattle.lab_snap.specs.Hub.{hub_form}
use Rattle.lab_snap.proofs.hub.SavedHubSpelled.encode.Goals as goal

pub returns-clause-spelled : goal.returns-clause-spelled
unfolding hub_form
returns-clause-spelled c =
    appended c.in_ok-encode.ensures.spelled
    (appended c.in_ok-encode-2.ensures.spelled
    (appended c.in_ok-encode-3.ensures.spelled c.in_ok-encode-4.ensures.spelled))
