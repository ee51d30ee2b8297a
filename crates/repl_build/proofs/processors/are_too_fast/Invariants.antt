-- The instructions so far.
use Rattle.std.proofs.Common.{◌≡◌, ◌+◌, take}
use Rattle.std.specs.List.{sum_by}
use Rattle.repl_build.specs.Processors.{speed_of}
use Rattle.repl_build.proofs.processors.are_too_fast.Given as goal

abbrev pub invariant-loop-p : goal.invariant-loop-p
invariant-loop-p l = l.total ≡ l.speed + sum_by speed_of (take l.p-index l.before)
