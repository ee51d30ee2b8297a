use Rattle.sys_bus.proofs.RegionLemmas.{belong_together}
use Rattle.sys_bus.proofs.regions.bytes_of_a_region_belong_together.Goals as goal

pub returns : goal.returns
returns c = belong_together
