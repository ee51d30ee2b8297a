use Rattle.sys_bus.proofs.RegionLemmas.{one_region}
use Rattle.sys_bus.proofs.regions.an_address_lies_in_one_region.Goals as goal

pub returns : goal.returns
returns c = one_region
