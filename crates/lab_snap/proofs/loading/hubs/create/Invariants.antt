-- The hub has its first members.
use Rattle.std.proofs.Common.{◌≡◌, take}
use Rattle.lab_snap.proofs.HubLemmas.{with_half}
use Rattle.lab_snap.proofs.loading.hubs.create.Given as goal

abbrev pub invariant-loop-member : goal.invariant-loop-member
invariant-loop-member g l = l.lab ≡ with_half l.fn.lab l.hub (take l.member-index l.hub.members)
