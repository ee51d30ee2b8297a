-- Those so far, and then the rest.
use Rattle.std.proofs.Common.{◌≡◌, [], ◌++◌, take, drop}
use Rattle.repl_build.specs.Plan.{each, region_of}
use Rattle.repl_build.proofs.plan.regions_of.Given as goal

abbrev pub invariant-loop-i : goal.invariant-loop-i
invariant-loop-i l = l.regions.items ++ each region_of (take l.i l.all) (drop l.i l.all) ≡ each region_of [] l.all
