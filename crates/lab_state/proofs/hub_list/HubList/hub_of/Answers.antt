-- The hubs have the members and the delays in their order.
use Rattle.std.proofs.Common.{◌≡◌, ◌∙◌, sym, ap, refl, Option, None, Some, []}
use Rattle.std.specs.Option.{option_map, option_map_or}
use Rattle.lab_num.specs.Route.{hub_of}
use Rattle.uart_hub.specs.Hub.{Hub}
use Rattle.lab_state.specs.Hub.{members_of, delay_of}
use Rattle.lab_state.proofs.HubLemmas.{hubs-delay, hub-members}
use Rattle.lab_state.proofs.hub_list.HubList.hub_of.Goals as goal

-- what is seen of what was found
seen : {A X : Type 0} (view : A → Hub) (f : Hub → X) (o : Option A) →
    option_map (λ hub. f (view hub)) o ≡ option_map f (option_map view o)
seen view f None = refl
seen view f (Some hub) = refl

seen_or : {A X : Type 0} (view : A → Hub) (f : Hub → X) (none : X) (o : Option A) →
    option_map_or (λ hub. f (view hub)) o none ≡ option_map_or f (option_map view o) none
seen_or view f none None = refl
seen_or view f none (Some hub) = refl

pub returns-clause-delay : goal.returns-clause-delay
returns-clause-delay c =
    let are = c.self.invariant.0 in
    seen (λ hub. hub.now) (λ (hub : Hub). hub.delay) c.hub_of.result
    ∙ ap (option_map (λ (hub : Hub). hub.delay)) c.hub_of.ensures
    ∙ hubs-delay c.self.inside.names.entries c.self.inside.hubs c.args.from (sym are.names_long ∙ are.parts_long)
    ∙ ap (λ hubs. delay_of hubs c.args.from) c.self.view_is

pub returns-clause-members : goal.returns-clause-members
returns-clause-members c =
    seen_or (λ hub. hub.now) (λ (hub : Hub). hub.members) [] c.hub_of.result
    ∙ ap (λ hub. option_map_or (λ (hub : Hub). hub.members) hub []) c.hub_of.ensures
    ∙ hub-members c.self.inside.hubs c.args.from
    ∙ ap (λ hubs. hub_of hubs c.args.from) (sym c.self.invariant.0.members_are)
    ∙ ap (λ hubs. hub_of (members_of hubs) c.args.from) c.self.view_is
