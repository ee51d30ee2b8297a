-- The spans so far, and then the rest.
use Rattle.std.proofs.Common.{◌≡◌, map, drop}
use Rattle.repl_read.specs.Items.{spans_of}
use Rattle.repl_read.proofs.ListLemmas.{onto}
use Rattle.repl_read.proofs.items.spans_of.Given as goal

abbrev pub invariant-loop-part : goal.invariant-loop-part
invariant-loop-part l =
    onto l.spans.items (spans_of (map (λ part. part.now) (drop l.part-index l.parts)))
    ≡ spans_of (map (λ part. part.now) l.parts)
