use Rattle.board_space.proofs.FitLemmas.{one_or_four}
use Rattle.board_space.proofs.space.Space.register_of.Goals as goal

pub register_at-requires : goal.register_at-requires
register_at-requires g c = rw (c.step_of.ensures, c.self.invariant.0) (one_or_four _ c.args.dev c.self.invariant.1)
