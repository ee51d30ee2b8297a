use Rattle.plic.proofs.SetLemmas.{has-set_of, same_sets}
use Rattle.plic.proofs.laws.sets_have_what_passes.Goals as goal

pub returns-clause-passes : goal.returns-clause-passes
returns-clause-passes c = has-set_of

pub returns-clause-same : goal.returns-clause-same
returns-clause-same c = same_sets
