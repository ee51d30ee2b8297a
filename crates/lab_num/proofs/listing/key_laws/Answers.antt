-- The order of keys is total.
use Rattle.lab_num.proofs.ListingLemmas.{key_total}
use Rattle.lab_num.proofs.listing.key_laws.Goals as goal

pub returns-clause-total : goal.returns-clause-total
returns-clause-total c = key_total
