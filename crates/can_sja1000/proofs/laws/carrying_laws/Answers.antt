-- The laws of what frames carry.
use Rattle.can_sja1000.proofs.CarryingLemmas.{carried_over, transmit_written}
use Rattle.can_sja1000.proofs.laws.carrying_laws.Goals as goal

pub returns-clause-written : goal.returns-clause-written
returns-clause-written _ = λ c place value mode below. transmit_written c place value mode below

pub returns-clause-read : goal.returns-clause-read
returns-clause-read _ = λ c d frame place w sends empty is below. carried_over c d frame place w sends empty is below
