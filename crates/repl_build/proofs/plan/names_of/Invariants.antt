-- Those so far, and then the rest.
use Rattle.std.proofs.Common.{◌≡◌, [], ◌++◌, take, drop}
use Rattle.repl_build.specs.Plan.{each, name_of}
use Rattle.repl_build.proofs.plan.names_of.Given as goal

abbrev pub invariant-loop-i : goal.invariant-loop-i
invariant-loop-i l = l.names.items ++ each name_of (take l.i l.all) (drop l.i l.all) ≡ each name_of [] l.all
