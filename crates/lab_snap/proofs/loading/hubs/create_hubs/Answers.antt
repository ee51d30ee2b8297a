-- The name of the next hub is free, and its members are in no other.
use Rattle.lab_snap.proofs.HubLemmas.{hub_free, hub_once}
use Rattle.lab_snap.proofs.loading.hubs.create_hubs.Goals as goal

pub create-requires-clause-free : goal.create-requires-clause-free
create-requires-clause-free g c =
    hub_free c.args.lab.now c.args.hubs.now c.loop-hub.hub-index c.hub-item.result c.requires.can c.loop-hub-test.true
    c.hub-item.is c.loop-hub.invariant

pub create-requires-clause-once : goal.create-requires-clause-once
create-requires-clause-once g c =
    hub_once c.args.lab.now c.args.hubs.now c.loop-hub.hub-index c.hub-item.result c.requires.can c.loop-hub-test.true
    c.hub-item.is c.loop-hub.invariant
