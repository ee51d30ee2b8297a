-- A part of a list of which each is looked at.
use Rattle.rv_atomic.proofs.WatchLemmas.{store-first}
use Rattle.rv_atomic.proofs.watch.Watch.stored.Goals as goal

pub returns : goal.returns
returns c =
    store-first c.self.inside.harts _ _ _ _ _ _ c.self.invariant.0 c.self.invariant.1 c.self.view_is c.requires
    c.all_kept-self-inside.ensures
