use Rattle.board_space.proofs.FitLemmas.{fit_controller}
use Rattle.board_space.proofs.space.Space.store_controller.Goals as goal

pub invariant_of-self : goal.invariant_of-self
invariant_of-self g c = (
  c.self.invariant.0,
  fit_controller _ _ c.self.invariant.1 c.store_controller.ensures.kept,
  c.self.invariant.2,
  tt,
)
