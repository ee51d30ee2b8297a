-- The hubs have the delays in their order.
use Rattle.std.proofs.Common.{◌∙◌}
use Rattle.lab_state.proofs.HubLemmas.{part-at}
use Rattle.lab_state.proofs.hub_list.HubList.hub_delay.Goals as goal

pub returns : goal.returns
returns c =
    let are = rw c.self.view_is at c.self.invariant.0 in
    c.hub_delay.ensures ∙ part-at are (λ hub. hub.delay) c.args.n
