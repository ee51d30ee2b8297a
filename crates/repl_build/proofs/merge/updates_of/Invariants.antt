-- The entries so far.
use Rattle.std.proofs.Common.{take}
use Rattle.repl_build.specs.Inner.Found.{HasUpdates}
use Rattle.repl_build.proofs.merge.updates_of.Given as goal

abbrev pub invariant-loop-entry : goal.invariant-loop-entry
invariant-loop-entry l = HasUpdates l.updates (take l.entry-index l.entries)
