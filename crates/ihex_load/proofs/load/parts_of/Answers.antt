use Rattle.std.proofs.Common.{arith}
use Rattle.std.proofs.lemmas.Grind.{common_steps}
use Rattle.ihex_load.proofs.load.parts_of.Goals as goal

pub returns-in-EndOfFile : goal.returns-in-EndOfFile
returns-in-EndOfFile c = grind (arith, common_steps)

pub loop-rest-preserved-in_ok-place-in-Data : goal.loop-rest-preserved-in_ok-place-in-Data
loop-rest-preserved-in_ok-place-in-Data c = grind (arith, common_steps)

pub returns : goal.returns
returns c = grind (arith, common_steps)
