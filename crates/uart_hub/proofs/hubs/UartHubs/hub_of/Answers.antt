-- The rank of the member names its hub, or none.
use Rattle.std.proofs.Common.{◌≡◌, ◌∙◌, ◌≤◌, ap, sym, length, find, arith}
use Rattle.lab_num.specs.Route.{has_member}
use Rattle.uart_hub.specs.Hub.{Hub}
use Rattle.uart_hub.specs.Inner.Rank.{rank}
use Rattle.uart_hub.proofs.RankLemmas.{missing, rank_within, reached}
use Rattle.uart_hub.proofs.hubs.UartHubs.hub_of.Goals as goal

pub returns-then-rank-eq0 : goal.returns-then-rank-eq0
returns-then-rank-eq0 c =
    let m = c.args.member in
    let told : c.of-rank.result ≡ rank c.self.inside.hubs.items m =
    c.of-rank.ensures.value ∙ c.self.invariant.1 m c.of-rank.ensures.low in
    missing c.self.inside.hubs.items m (sym told ∙ c.if-rank-eq0.true)
    ∙ ap (λ hubs. find (λ (hub : Hub). has_member hub.members m) hubs) c.self.view_is

pub index-requires : goal.index-requires
index-requires c =
    let m = c.args.member in
    let told : c.of-rank.result ≡ rank c.self.inside.hubs.items m =
    c.of-rank.ensures.value ∙ c.self.invariant.1 m c.of-rank.ensures.low in
    let within : rank c.self.inside.hubs.items m ≤ length c.self.inside.hubs.items =
    rank_within c.self.inside.hubs.items m in
    let counted = c.self.inside.hubs.ok in
    let some = c.if-rank-eq0.false in
    omega (arith, told, within, some)

pub returns : goal.returns
returns c =
    let m = c.args.member in
    let told : c.of-rank.result ≡ rank c.self.inside.hubs.items m =
    c.of-rank.ensures.value ∙ c.self.invariant.1 m c.of-rank.ensures.low in
    reached c.self.inside.hubs.items m c.of-rank.result c.index.result.now told c.if-rank-eq0.false c.index.ensures
    ∙ ap (λ hubs. find (λ (hub : Hub). has_member hub.members m) hubs) c.self.view_is
