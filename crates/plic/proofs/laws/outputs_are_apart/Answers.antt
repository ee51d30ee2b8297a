use Rattle.plic.proofs.BestLemmas.{output_is_own}
use Rattle.plic.proofs.laws.outputs_are_apart.Goals as goal

pub returns : goal.returns
returns c = output_is_own
