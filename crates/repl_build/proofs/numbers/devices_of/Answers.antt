use Rattle.std.proofs.Common.{arith}
use Rattle.std.proofs.lemmas.Grind.{common_steps}
use Rattle.repl_build.proofs.numbers.devices_of.Goals as goal

pub returns : goal.returns
returns c = grind (arith, common_steps)
