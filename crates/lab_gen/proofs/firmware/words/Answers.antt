use Rattle.std.proofs.Common.{arith}
use Rattle.std.proofs.lemmas.Grind.{common_steps}
use Rattle.lab_gen.proofs.Texts.{joined}
use Rattle.lab_gen.proofs.firmware.words.Goals as goal

pub returns : goal.returns
returns c = grind (arith, common_steps, joined _ _ _ c.upper_word.ensures c.rest_word.ensures)
