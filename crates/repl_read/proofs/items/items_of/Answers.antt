-- A part more: an item, or none.
use Rattle.std.proofs.Common.{◌≡◌, ◌<◌, ◌==◌, ◌∙◌, true, false, sym, ap, ◌+◌, List, length, drop, map, arith, rules}
use denote.Ref.{Bor}
use Rattle.repl_read.specs.declared.tokens.Token.{Token}
use Rattle.repl_read.proofs.ListLemmas.{onto, parts_from, items_more, items_skip}
use Rattle.repl_read.proofs.items.items_of.Goals as goal
use Rattle.repl_read.proofs.items.items_of.Goals.{then-not-is_empty+in_ok-item_of+in_ok-push, else-not-is_empty}

pub loop-part-preserved : goal.loop-part-preserved
loop-part-preserved c =
    let part = c.part-item.result in
    let rest = map (λ (part : Bor (List Token)). part.now) (drop (c.loop-part.part-index + 1) c.args.parts.now) in
    let inside : c.loop-part.part-index < length c.args.parts.now = omega arith in
    let next = parts_from c.args.parts.now c.loop-part.part-index part inside c.part-item.is in
    let read = rw next at c.loop-part.invariant in
    elim c.if-not-is_empty.branch [
      | then-not-is_empty+in_ok-item_of+in_ok-push w ↦
          let some : (length part.now == 0) ≡ false = search rules in
          rw (w.items-is, (w.in_ok-push.ensures {u = tt}).items)
          (sym
          (items_more part.now rest w.in_ok-item_of.field-0 c.loop-part.items.items some
          (w.in_ok-item_of.ensures {u = tt}))
          ∙ read)
      | else-not-is_empty w ↦
          let none : (length part.now == 0) ≡ true = search rules in
          rw w.items-is (ap (onto c.loop-part.items.items) (sym (items_skip part.now rest none)) ∙ read)
    ]
