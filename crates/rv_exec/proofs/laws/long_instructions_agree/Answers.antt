-- Each instruction by itself.
use Rattle.rv_exec.proofs.CompressedLemmas.{same_effect}
use Rattle.rv_exec.proofs.laws.long_instructions_agree.Goals as goal

pub returns : goal.returns
returns c = same_effect
