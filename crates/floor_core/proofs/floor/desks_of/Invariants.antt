use Rattle.std.proofs.Common.{◌≡◌, map}
use Rattle.floor_core.specs.Floor.{fresh}
use Rattle.floor_core.proofs.floor.desks_of.Given as goal

abbrev pub invariant-loop-job : goal.invariant-loop-job
invariant-loop-job g l = l.desks.items ≡ map fresh (map g.J.Job.meaning l.yielded)
