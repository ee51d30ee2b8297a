-- The best of the sources below the next one.
use Rattle.plic.specs.Inner.Best.{IsBest}
use Rattle.plic.proofs.best.best_ready.Given as goal

abbrev pub invariant-loop-source : goal.invariant-loop-source
invariant-loop-source l = IsBest l.state l.context l.source l.best.source l.best.priority
