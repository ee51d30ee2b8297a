-- Those so far, and then the rest.
use Rattle.std.proofs.Common.{◌≡◌, ◌++◌, drop}
use Rattle.repl_build.specs.Plan.{kinds_of}
use Rattle.repl_build.proofs.plan.kinds_of.Given as goal

abbrev pub invariant-loop-p : goal.invariant-loop-p
invariant-loop-p l = l.kinds.items ++ kinds_of (drop l.p-index l.all) ≡ kinds_of l.all
