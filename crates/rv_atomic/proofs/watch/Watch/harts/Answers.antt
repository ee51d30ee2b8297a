-- The harts that there are come first.
use Rattle.rv_atomic.proofs.WatchLemmas.{length-first}
use Rattle.rv_atomic.proofs.watch.Watch.harts.Goals as goal

pub returns-clause-value : goal.returns-clause-value
returns-clause-value c = length-first _ _ _ c.self.invariant.0 c.self.invariant.1 c.self.view_is
