-- The hub of the member was found, or there is none.
use Rattle.std.proofs.Common.{◌∙◌, sym, ap, []}
use Rattle.std.specs.Option.{option_map, option_map_or}
use Rattle.lab_num.specs.Route.{others}
use Rattle.uart_hub.specs.Hub.{Hub}
use Rattle.uart_hub.proofs.HubLemmas.{route-found}
use Rattle.uart_hub.proofs.hubs.UartHubs.route.Goals as goal

pub returns-in-Some : goal.returns-in-Some
returns-in-Some c =
    let from = c.args.from in
    let found =
    ap (λ hub. option_map_or (λ (hub : Hub). others hub.members from) (option_map (λ hub. hub.now) hub) [])
    (sym c.in-Some.is)
    ∙ ap (λ hub. option_map_or (λ (hub : Hub). others hub.members from) hub []) c.hub_of.ensures
    ∙ route-found c.args.self.now from in
    rw (← found) c.others.ensures

pub returns-in-None : goal.returns-in-None
returns-in-None c =
    let from = c.args.from in
    c.new.ensures.items
    ∙ ap (λ hub. option_map_or (λ (hub : Hub). others hub.members from) (option_map (λ hub. hub.now) hub) [])
    (sym c.in-None.is)
    ∙ ap (λ hub. option_map_or (λ (hub : Hub). others hub.members from) hub []) c.hub_of.ensures
    ∙ route-found c.args.self.now from
