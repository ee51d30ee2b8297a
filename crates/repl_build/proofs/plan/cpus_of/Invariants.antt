-- Those so far, and then the rest.
use Rattle.std.proofs.Common.{◌≡◌, ◌++◌, drop}
use Rattle.repl_build.specs.Processors.{cpus_of}
use Rattle.repl_build.proofs.plan.cpus_of.Given as goal

abbrev pub invariant-loop-p : goal.invariant-loop-p
invariant-loop-p l = l.names.items ++ cpus_of (drop l.p-index l.all) ≡ cpus_of l.all
