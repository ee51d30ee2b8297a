use Rattle.plic.proofs.BestLemmas.{claim_is_chosen, none_is_claimable}
use Rattle.plic.proofs.laws.claims_take_the_greatest_priority.Goals as goal

pub returns-clause-chosen : goal.returns-clause-chosen
returns-clause-chosen c = claim_is_chosen

pub returns-clause-none : goal.returns-clause-none
returns-clause-none c = none_is_claimable
