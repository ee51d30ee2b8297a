-- A member more of a hub is a device of its kind, and was in no hub.
use Rattle.std.proofs.Common.{◌≡◌, ◌∙◌, sym, ap, Bool, true, false, Result, Ok, Err, refl}
use Rattle.std.specs.Prelude.{slice_get, IsTrue, ◌↔◌}
use Rattle.std.specs.Option.{option_map}
use Rattle.lab_num.specs.Route.{is_connected}
use Rattle.lab_state.specs.Hub.{Hub, members_of}
use Rattle.lab_state.specs.Lab.{Seen}
use Rattle.lab_state.specs.One.{kind_at}
use Rattle.uart_hub.specs.declared.hubs.HubFault.{HubFault}
use Rattle.uart_hub.specs.declared.hubs.HubFault.TheVariants.{Already}
use Rattle.lab_state.proofs.SoundLemmas.{sound-member, kind-outlines}
use Rattle.lab_state.proofs.lab.Lab.connect.Goals as goal

-- what was connected was in no hub
was_out :
    (b : Bool) {r : Result (Unit {0}) HubFault} {x : Unit {0}} → r ≡ Ok x → (r ≡ Err Already) ↔ IsTrue b → b ≡ false
was_out true {r = r} is already =
    let wrong : r ≡ Err Already = already.1 refl in
    absurd (cc)
was_out false is already = refl

pub invariant_of-self-2 : goal.invariant_of-self-2
invariant_of-self-2 g c h =
    let m = c.args.member in
    rw c.in_ok-connect.ensures.ok
    (sound-member c.in_ok-n.n m (c.self.invariant h)
    (was_out (is_connected (members_of c.self.inside.hubs) m) (c.in_ok-connect.was {u = tt}) c.connect.ensures.already)
    (λ hub at. kind-outlines c.self.inside.boards.items m
    ∙ ap (λ (s : Seen). kind_at s.lab.boards m) c.self.view_is
    ∙ sym c.kind_of.ensures
    ∙ sym c.in_ok-n.ensures.head
    ∙ ap (λ (s : Seen). option_map (λ (hub : Hub). hub.kind) (slice_get s.lab.hubs c.in_ok-n.n)) (sym c.self.view_is)
    ∙ ap (option_map (λ (hub : Hub). hub.kind)) at))
