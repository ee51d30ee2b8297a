-- No item so far has a fault, and what was met is known.
use Rattle.std.proofs.Common.{◌≡◌, [], take, drop}
use Rattle.repl_build.specs.First.{first_fault}
use Rattle.repl_build.specs.Inner.Seen.{HasKeys}
use Rattle.repl_build.specs.Names.{repeated_item}
use Rattle.repl_build.proofs.names.repeated_item.Given as goal

abbrev pub invariant-loop-item : goal.invariant-loop-item
invariant-loop-item l = record {
  none :
      first_fault (repeated_item l.file) (take l.item-index l.items) (drop l.item-index l.items)
      ≡ first_fault (repeated_item l.file) [] l.items;
  known : HasKeys l.keys (take l.item-index l.items);
}
