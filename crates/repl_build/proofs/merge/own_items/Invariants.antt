-- The items so far, and where they stand.
use Rattle.std.proofs.Common.{◌≡◌, map, take}
use Rattle.repl_build.specs.Inner.Places.{HasPlaces}
use Rattle.repl_build.specs.Merge.{placed}
use Rattle.repl_build.proofs.merge.own_items.Given as goal

abbrev pub invariant-loop-item : goal.invariant-loop-item
invariant-loop-item l =
    (l.items.all.items ≡ map (placed l.entry.file) (take l.item-index l.item-items))
    × HasPlaces l.items.places l.items.all.items
