-- The hubs have the names in their order.
use Rattle.std.proofs.Common.{◌∙◌}
use Rattle.lab_state.proofs.HubLemmas.{named-at}
use Rattle.lab_state.proofs.hub_list.HubList.find.Goals as goal

pub returns-clause-number : goal.returns-clause-number
returns-clause-number c =
    rw (← c.self.view_is)
    (c.get_index_of.ensures.index
    ∙ named-at c.args.name.now c.self.inside.names.entries _ c.self.invariant.0.names_are)
