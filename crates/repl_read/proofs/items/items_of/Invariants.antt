-- The items so far, and then the rest.
use Rattle.std.proofs.Common.{◌≡◌, map, drop}
use Rattle.repl_read.specs.Items.{items_of}
use Rattle.repl_read.proofs.ListLemmas.{onto}
use Rattle.repl_read.proofs.items.items_of.Given as goal

abbrev pub invariant-loop-part : goal.invariant-loop-part
invariant-loop-part l =
    onto l.items.items (items_of (map (λ part. part.now) (drop l.part-index l.parts)))
    ≡ items_of (map (λ part. part.now) l.parts)
