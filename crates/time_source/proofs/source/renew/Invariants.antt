use Rattle.std.proofs.Common.{◌≡◌, ◌++◌, map, take, drop}
use Rattle.time_source.specs.Tree.{renewed}
use Rattle.time_source.proofs.source.renew.Given as goal

abbrev pub invariant-loop-handle : goal.invariant-loop-handle
invariant-loop-handle l =
    l.handle-items
    ≡ map (renewed l.from.0 l.to.0) (take l.handle-index l.initial.handle-items)
    ++ drop l.handle-index l.initial.handle-items
