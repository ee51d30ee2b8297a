use Rattle.lab_snap.proofs.DelayLemmas.{not_once, table_done}
use Rattle.lab_snap.proofs.valid.hubs.delays.Goals as goal

pub returns-then-not-branch : goal.returns-then-not-branch
returns-then-not-branch c =
    not_once c.args.hubs.now c.loop-hub.hub-index c.hub-item.result c.loop-hub.delays.entries c.loop-hub-test.true
    c.hub-item.is c.loop-hub.invariant.entries (c.in_ok-add_members.ensures.twice c.if-not-branch.true)

pub returns : goal.returns
returns c =
    table_done c.args.hubs.now c.loop-hub.hub-index c.loop-hub.delays.entries c.loop-hub-test.false
    c.loop-hub.invariant.entries c.loop-hub.invariant.distinct
