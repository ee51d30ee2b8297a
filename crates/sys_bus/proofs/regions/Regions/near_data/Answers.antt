use Rattle.sys_bus.proofs.RegionLemmas.{near_place}
use Rattle.sys_bus.proofs.regions.Regions.near_data.Goals as goal

pub returns : goal.returns
returns c =
    rw c.self.view_is at
    (near_place c.self.inside.list.items _ c.args.at c.place.result c.self.invariant.3 c.place.ensures)
