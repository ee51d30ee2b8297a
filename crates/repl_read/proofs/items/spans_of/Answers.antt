-- A part more.
use Rattle.std.proofs.Common.{◌∙◌, sym, ◌+◌, List, drop, map}
use denote.Ref.{Bor}
use Rattle.repl_read.specs.declared.tokens.Token.{Token}
use Rattle.repl_read.specs.Items.{span_of}
use Rattle.repl_read.proofs.ListLemmas.{parts_from, all_more}
use Rattle.repl_read.proofs.items.spans_of.Goals as goal

pub loop-part-preserved : goal.loop-part-preserved
loop-part-preserved c =
    let part = c.part-item.result in
    let rest = map (λ (part : Bor (List Token)). part.now) (drop (c.loop-part.part-index + 1) c.args.parts.now) in
    let next = parts_from c.args.parts.now c.loop-part.part-index part c.loop-part-test.true c.part-item.is in
    rw (c.in_ok-push.ensures {u = tt}).items
    (sym
    (all_more span_of part.now rest c.in_ok-span_of.field-0 c.loop-part.spans.items (c.in_ok-span_of.ensures {u = tt}))
    ∙ (rw next at c.loop-part.invariant))
