-- A part of a list in which one is set.
use Rattle.rv_atomic.proofs.WatchLemmas.{set-first}
use Rattle.rv_atomic.proofs.watch.Watch.put.Goals as goal

pub returns : goal.returns
returns c = set-first c.self.inside.harts _ _ _ _ c.self.invariant.0 c.self.invariant.1 c.self.view_is c.requires
