-- No entry so far has a fault, and what was met is known.
use Rattle.std.proofs.Common.{◌≡◌, [], take, drop}
use Rattle.repl_build.specs.First.{first_fault}
use Rattle.repl_build.specs.Inner.Seen.{HasTyped}
use Rattle.repl_build.specs.Names.{untyped_at}
use Rattle.repl_build.proofs.names.untyped.Given as goal

abbrev pub invariant-loop-entry : goal.invariant-loop-entry
invariant-loop-entry l = record {
  none :
      first_fault (untyped_at) (take l.entry-index l.entries) (drop l.entry-index l.entries)
      ≡ first_fault (untyped_at) [] l.entries;
  known : HasTyped l.names (take l.entry-index l.entries);
}
