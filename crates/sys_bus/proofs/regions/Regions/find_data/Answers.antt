use Rattle.std.proofs.Common.{◌∙◌, ap, sym, find}
use Rattle.sys_bus.specs.Region.{holds}
use Rattle.sys_bus.proofs.RegionLemmas.{found_addressed, near_found}
use Rattle.sys_bus.proofs.regions.Regions.find_data.Goals as goal

pub of-self-inside-requires : goal.of-self-inside-requires
of-self-inside-requires c =
    found_addressed _ c.args.at c.args.width _ c.self.invariant.1
    (ap (find (holds c.args.at c.args.width)) c.self.view_is ∙ sym c.in-Some.ensures.region)

pub invariant_of-self : goal.invariant_of-self
invariant_of-self c =
    let kept = c.self.invariant in
    let near = c.of-self-inside.ensures in
    let region =
    ap (find (holds c.args.at c.args.width)) c.self.view_is ∙ sym c.in-Some.ensures.region in
    let found =
    near_found c.self.inside.list.items c.args.at c.args.width c.in-Ram.part c.in-Some.region
    c.of-self-inside.result kept.0 region c.in-Ram.is near.base near.starts near.part in
    (kept.0, kept.1, kept.2, found)
