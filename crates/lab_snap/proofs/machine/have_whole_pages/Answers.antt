use Rattle.sys_bus.proofs.PlanLemmas.{ram_sizes}
use Rattle.lab_snap.proofs.machine.have_whole_pages.Goals as goal

pub returns : goal.returns
returns c = ram_sizes c.args.plan.now c.requires
