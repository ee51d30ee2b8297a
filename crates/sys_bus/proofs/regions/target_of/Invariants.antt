use Rattle.std.proofs.Common.{◌≡◌, drop, find}
use Rattle.sys_bus.specs.Region.{holds}
use Rattle.sys_bus.proofs.regions.target_of.Given as goal

-- No region so far is the one.
abbrev pub invariant-loop-region : goal.invariant-loop-region
invariant-loop-region l =
    find (holds l.at l.width) l.regions ≡ find (holds l.at l.width) (drop l.region-index l.regions)
