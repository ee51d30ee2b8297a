-- The items so far, and then the rest.
use Rattle.std.proofs.Common.{◌≡◌, map, drop}
use Rattle.std.specs.List.{fold}
use Rattle.repl_build.specs.Inner.Places.{HasPlaces}
use Rattle.repl_build.specs.Merge.{placed, own_items, with_item}
use Rattle.repl_build.proofs.merge.add_items.Given as goal

abbrev pub invariant-loop-item : goal.invariant-loop-item
invariant-loop-item l =
    (fold with_item l.items.all.items (map (placed l.entry.file) (drop l.item-index l.item-items))
    ≡ fold with_item l.fn.items.all.items (own_items l.entry))
    × HasPlaces l.items.places l.items.all.items
