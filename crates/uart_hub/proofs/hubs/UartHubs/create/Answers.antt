-- A hub without members is not the first that has one.
use Rattle.std.proofs.Common.{◌≡◌, ◌∙◌, ◌++◌, ◌∷◌, [], ap, sym}
use Rattle.uart_hub.specs.Hub.{Hub}
use Rattle.uart_hub.proofs.RankLemmas.{once_created, rank_created}
use Rattle.uart_hub.proofs.hubs.UartHubs.create.Goals as goal

pub invariant_of-self-2 : goal.invariant_of-self-2
invariant_of-self-2 c =
    let hubs = c.self.inside.hubs.items in
    let made : c.push.new.self.items ≡ hubs ++ record { delay = c.args.delay; members = [] } ∷ [] =
    (c.in_ok-push.ensures {u = tt}).items ∙ ap (λ (hub : Hub). hubs ++ hub ∷ []) c.new.ensures in
    rw made (
      once_created hubs c.args.delay c.self.invariant.0,
      λ m low. c.self.invariant.1 m low ∙ sym (rank_created hubs c.args.delay m),
    )
