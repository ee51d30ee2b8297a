-- The first hubs are there.
use Rattle.std.proofs.Common.{◌≡◌, map, take}
use Rattle.lab_snap.specs.Inner.Building.{with_hubs}
use Rattle.lab_snap.specs.Loaded.{loaded_hub}
use Rattle.lab_snap.proofs.loading.hubs.create_hubs.Given as goal

abbrev pub invariant-loop-hub : goal.invariant-loop-hub
invariant-loop-hub g l = l.lab ≡ with_hubs l.fn.lab (map loaded_hub (take l.hub-index l.hubs))
