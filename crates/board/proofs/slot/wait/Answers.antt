-- The letters and the number stay.
use Rattle.std.proofs.Common.{ap}
use Rattle.rv_hart.specs.Core.{Core, ticked}
use Rattle.board.proofs.slot.wait.Goals as goal

pub returns-then-not-is_ready-clause-same : goal.returns-then-not-is_ready-clause-same
unfolding ticked
returns-then-not-is_ready-clause-same g c = record {
  letters = ap {A = Core} (λ core. core.letters) c.tick.ensures;
  number = ap {A = Core} (λ core. core.number) c.tick.ensures;
}
