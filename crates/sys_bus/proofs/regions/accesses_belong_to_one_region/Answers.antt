use Rattle.sys_bus.proofs.RegionLemmas.{one_holds}
use Rattle.sys_bus.proofs.regions.accesses_belong_to_one_region.Goals as goal

pub returns : goal.returns
returns c = one_holds
