-- A member that was in no hub is in the hubs once.
use Rattle.std.proofs.Common.{◌≡◌, ◌∙◌, ◌<◌, false, length, ap, sym, arith}
use Rattle.std.proofs.lemmas.List.{length-map}
use Rattle.lab_num.specs.Change.{change_at}
use Rattle.lab_num.specs.Route.{is_connected}
use Rattle.lab_num.proofs.ListLemmas.{set-change}
use Rattle.uart_hub.specs.Hub.{Hub, members_of, with_member}
use Rattle.uart_hub.proofs.HubLemmas.{connected_once, members-connected}
use Rattle.uart_hub.proofs.RankLemmas.{ranks_connected, ranks_kept}
use Rattle.uart_hub.proofs.hubs.UartHubs.connect.Goals as goal

pub invariant_of-self-2 : goal.invariant_of-self-2
invariant_of-self-2 c =
    let hubs = c.self.inside.hubs.items in
    let m = c.args.member in
    let i = c.args.hub in
    let within : i < length hubs = omega (arith, ap length c.self.view_is) in
    let below : i < length (members_of hubs) = omega (arith, within, length-map hubs (λ (hub : Hub). hub.members)) in
    let absent : is_connected (members_of hubs) m ≡ false =
    ap (λ hubs. is_connected (members_of hubs) m) c.self.view_is ∙ sym c.is_connected.ensures
    ∙ c.if-is_connected.false in
    let low = c.reach.ensures.low in
    rw (
      set-change (with_member m) hubs i c.index_mut.ensures.value c.in_ok-push.ensures.ok,
      members-connected hubs i m,
      c.put.ensures,
    ) (
      connected_once (members_of hubs) i m below absent c.self.invariant.0,
      ranks_connected c.reach.new.self hubs i m
          (ranks_kept c.self.inside.ranks c.reach.new.self hubs c.reach.ensures.same c.self.invariant.1) low
          (c.in_ok-reach.ensures {u = tt}).room absent within,
    )

pub returns-clause-ok : goal.returns-clause-ok
returns-clause-ok c =
    set-change (with_member c.args.member) c.self.inside.hubs.items c.args.hub c.index_mut.ensures.value
    (c.in_ok-push.ensures.ok)
    ∙ ap (λ hubs. change_at hubs c.args.hub (with_member c.args.member)) c.self.view_is
