use Rattle.std.proofs.Common.{[]}
use Rattle.board_space.proofs.FitLemmas.{fit_memory}
use Rattle.board_space.proofs.LineLemmas.{right_memories}
use Rattle.board_space.proofs.space.Space.put_memory.Goals as goal

pub invariant_of-self : goal.invariant_of-self
invariant_of-self g c = (
  c.self.invariant.0,
  fit_memory _ c.from.result c.args.memory [] c.self.invariant.1
      (rw c.from.ensures (rw (← c.self.view_is) at c.requires.size)),
  c.self.invariant.2,
  right_memories _ _ _ c.self.invariant.3,
)
