use Rattle.std.proofs.Common.{◌≡◌, map, Some}
use Rattle.floor_run.proofs.opening.cells_of.Given as goal

abbrev pub invariant-loop-job : goal.invariant-loop-job
invariant-loop-job g l = l.cells.items ≡ map Some l.yielded
