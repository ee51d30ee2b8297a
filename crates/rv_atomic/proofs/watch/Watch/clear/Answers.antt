-- A part of a list of nothing.
use Rattle.rv_atomic.proofs.WatchLemmas.{none-first}
use Rattle.rv_atomic.proofs.watch.Watch.clear.Goals as goal

pub returns : goal.returns
returns c = none-first c.self.inside.harts _ _ c.self.invariant.0 c.self.invariant.1 c.self.view_is
