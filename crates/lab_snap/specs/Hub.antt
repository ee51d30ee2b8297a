-- How a hub is spelled, and which hubs can stand in a laboratory.
use Rattle.std.proofs.Common.{refl, ◌≤◌}
use Rattle.std.specs.Prelude.{IsTrue}
use Rattle.dev_core.specs.Kind.{row_of}
use Rattle.lab_num.specs.Name.{is_name}
use Rattle.lab_encoding.specs.Form.{Form, IsLawful}
use Rattle.lab_encoding.specs.Combine.{list, number, text, via, ◌⊗◌}
use Rattle.lab_encoding.specs.Inner.Laws.{list_lawful, next_lawful, number_lawful, text_lawful, via_lawful}
use Rattle.lab_encoding.specs.Keys.{member_form, member_lawful}
use Rattle.lab_encoding.specs.PlanParts.{kind_form, kind_lawful}
use Rattle.lab_snap.specs.declared.hub.SavedHub.{SavedHub}

-- kind, name, delay and members
unfoldable pub hub_form : Form SavedHub
hub_form =
    via (λ s. (s.kind, (s.name, (s.delay, s.members))))
    (λ (kind, (name, (delay, members))). record { kind = kind; name = name; delay = delay; members = members })
    (kind_form ⊗ text ⊗ number 4 ⊗ list member_form)

pub hub_lawful : IsLawful hub_form
unfolding hub_form
hub_lawful =
    via_lawful _ _ (λ x. refl) (λ a. refl)
    (next_lawful kind_lawful (next_lawful text_lawful (next_lawful (number_lawful 4) (list_lawful member_lawful))))

-- a hub connects devices of a kind that joins hubs, has a name, and its delay is at most a second
pub record IsHub (hub : SavedHub) : Type 0 where
  pub kind : IsTrue (row_of hub.kind).joins_hubs
  pub name : IsTrue (is_name hub.name)
  pub delay : hub.delay ≤ 1000000
