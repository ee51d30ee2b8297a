-- The listing of the posts is the same in any order.
use Rattle.lab_laws.proofs.OrderLemmas.{boundaries-agree}
use Rattle.lab_laws.proofs.rounds.boundaries_agree.Goals as goal

pub returns : goal.returns
returns c = boundaries-agree c.listing_laws.ensures.is_listing c.listing_laws.ensures.only
