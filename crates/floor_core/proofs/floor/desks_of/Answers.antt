use Rattle.std.proofs.Common.{arith}
use Rattle.std.proofs.lemmas.Grind.{common_steps}
use Rattle.floor_core.proofs.floor.desks_of.Goals as goal

pub loop-job-preserved : goal.loop-job-preserved
loop-job-preserved g c = grind (arith, common_steps)
