use Rattle.std.proofs.Common.{◌≡◌, drop, find}
use Rattle.sys_bus.specs.declared.region.RegionKind.TheVariants.{Dev}
use Rattle.sys_bus.specs.Region.{same_part}
use Rattle.sys_bus.proofs.regions.Regions.step_of.Given as goal

-- No region so far is the one.
abbrev pub invariant-loop-region : goal.invariant-loop-region
invariant-loop-region l = find (λ region. same_part region.kind (Dev l.dev)) l.self
    ≡ find (λ region. same_part region.kind (Dev l.dev)) (drop l.region-index l.region-items)
