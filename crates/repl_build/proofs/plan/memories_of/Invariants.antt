-- Those so far, and then the rest.
use Rattle.std.proofs.Common.{◌≡◌, ◌++◌, drop}
use Rattle.repl_build.specs.Plan.{memories_of}
use Rattle.repl_build.proofs.plan.memories_of.Given as goal

abbrev pub invariant-loop-p : goal.invariant-loop-p
invariant-loop-p l = l.sizes.items ++ memories_of (drop l.p-index l.all) ≡ memories_of l.all
