use Rattle.lab_encoding.specs.Inner.Laws.{appended}
use Rattle.lab_encoding.specs.Reads.{Appends}
use Rattle.lab_snap.specs.Hub.{hub_form}
use Rattle.lab_snap.proofs.SavedParts.{hub_with}
use Rattle.lab_snap.proofs.saving.encode_hub.Goals as goal

pub returns-clause-spelled : goal.returns-clause-spelled
unfolding hub_form
returns-clause-spelled g c =
    hub_with (λ hub. Appends c.args.out.now.items c.encode_list.new.out.items (hub_form.spell hub)) _
    c.hub_kind.result c.hub_name.result.now c.hub_delay.result c.hub_members.result.now
    c.hub_kind.ensures c.hub_name.ensures.value c.hub_delay.ensures.value c.hub_members.ensures.value
    (appended c.in_ok-encode.ensures.spelled
    (appended c.in_ok-encode-2.ensures.spelled
    (appended c.in_ok-encode-3.ensures.spelled c.in_ok-encode_list.ensures.spelled)))
