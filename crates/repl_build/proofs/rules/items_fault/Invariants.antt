-- No item so far breaks the rule.
use Rattle.std.proofs.Common.{◌≡◌, [], take, drop}
use Rattle.repl_build.specs.First.{first_fault}
use Rattle.repl_build.specs.Rules.{item_fault}
use Rattle.repl_build.proofs.rules.items_fault.Given as goal

abbrev pub invariant-loop-item : goal.invariant-loop-item
invariant-loop-item l =
    first_fault (item_fault l.rule l.all l.before l.p) (take l.item-index l.item-items) (drop l.item-index l.item-items)
    ≡ first_fault (item_fault l.rule l.all l.before l.p) [] l.item-items
