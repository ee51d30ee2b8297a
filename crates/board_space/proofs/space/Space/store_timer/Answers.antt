use Rattle.board_space.proofs.FitLemmas.{fit_timer}
use Rattle.board_space.proofs.space.Space.store_timer.Goals as goal

pub invariant_of-self : goal.invariant_of-self
invariant_of-self g c = (
  c.self.invariant.0,
  fit_timer _ _ c.self.invariant.1 c.store_timer.ensures.kept,
  c.self.invariant.2,
  tt,
)
