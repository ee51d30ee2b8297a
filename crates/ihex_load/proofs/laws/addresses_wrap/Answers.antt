-- Addresses wrap, from the lemma.
use Rattle.ihex_load.proofs.LawLemmas.{wraps}
use Rattle.ihex_load.proofs.laws.addresses_wrap.Goals as goal

pub returns : goal.returns
returns c = wraps
