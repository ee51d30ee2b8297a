-- The hubs have the members in their order.
use Rattle.std.proofs.Common.{◌∙◌}
use Rattle.lab_state.proofs.HubLemmas.{part-at}
use Rattle.lab_state.proofs.hub_list.HubList.members.Goals as goal

pub returns-clause-value : goal.returns-clause-value
returns-clause-value c =
    let are = rw c.self.view_is at c.self.invariant.0 in
    c.members.ensures.value ∙ part-at are (λ hub. hub.members) c.args.n

pub returns-clause-once : goal.returns-clause-once
returns-clause-once c = rw (← c.self.view_is, c.self.invariant.0.members_are) c.members.ensures.once
