-- There is no other hart whose reservation may end.
use Rattle.rv_atomic.proofs.AloneLemmas.{alone}
use Rattle.rv_atomic.proofs.laws.alone_as_performed.Goals as goal

pub returns : goal.returns
returns c = alone
