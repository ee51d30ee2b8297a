-- By the steps one after another.
use Rattle.rv_atomic.proofs.HistoryLemmas.{needs_reservation}
use Rattle.rv_atomic.proofs.laws.success_needs_reservation.Goals as goal

pub returns : goal.returns
returns c = needs_reservation
