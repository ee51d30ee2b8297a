use Rattle.std.proofs.Common.{arith}
use Rattle.std.proofs.lemmas.Grind.{common_steps}
use Rattle.floor_core.proofs.floor.Floor.begin.Goals as goal

pub returns-clause-floor : goal.returns-clause-floor
returns-clause-floor g c = grind (arith, common_steps)

pub returns-clause-boards : goal.returns-clause-boards
returns-clause-boards g c = grind (arith, common_steps)
