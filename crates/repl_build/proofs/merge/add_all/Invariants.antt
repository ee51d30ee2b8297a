-- The items so far, and then those of the other entries.
use Rattle.std.proofs.Common.{◌≡◌, drop, map}
use Rattle.std.specs.List.{fold, flat_map}
use Rattle.repl_build.specs.Inner.Places.{HasPlaces}
use Rattle.repl_build.specs.Merge.{own_items, with_item}
use Rattle.repl_build.proofs.merge.add_all.Given as goal

abbrev pub invariant-loop-entry : goal.invariant-loop-entry
invariant-loop-entry l =
    (fold with_item l.items.all.items (flat_map own_items (map (λ entry. entry.now) (drop l.entry-index l.entries)))
    ≡ fold with_item l.fn.items.all.items (flat_map own_items (map (λ entry. entry.now) l.entries)))
    × HasPlaces l.items.places l.items.all.items
