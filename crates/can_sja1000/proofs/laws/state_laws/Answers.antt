-- The laws of states.
use Rattle.can_sja1000.proofs.StateLemmas.{calls_keep}
use Rattle.can_sja1000.proofs.laws.state_laws.Goals as goal

pub returns-clause-valid : goal.returns-clause-valid
returns-clause-valid c = λ state calls valid. calls_keep state calls valid

pub returns-clause-held : goal.returns-clause-held
returns-clause-held c = λ state calls valid. (calls_keep state calls valid).received
