-- By the steps one after another.
use Rattle.rv_atomic.proofs.StayLemmas.{stays}
use Rattle.rv_atomic.proofs.laws.reservations_stay.Goals as goal

pub returns : goal.returns
returns c = stays
