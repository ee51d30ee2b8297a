-- A hub that has the member was found.
use Rattle.std.proofs.Common.{◌≡◌, ◌∙◌, ap, Option, None, Some, refl}
use Rattle.std.specs.Prelude.{is_some}
use Rattle.std.specs.Option.{option_map}
use Rattle.uart_hub.proofs.HubLemmas.{found-connected}
use Rattle.uart_hub.proofs.hubs.UartHubs.is_connected.Goals as goal

same_some : {A B : Type 0} (f : A → B) (o : Option A) → is_some o ≡ is_some (option_map f o)
same_some f None = refl
same_some f (Some x) = refl

pub returns : goal.returns
returns c =
    c.is_some.ensures ∙ same_some (λ hub. hub.now) c.hub_of.result ∙ ap is_some c.hub_of.ensures
    ∙ found-connected c.args.self.now c.args.member
