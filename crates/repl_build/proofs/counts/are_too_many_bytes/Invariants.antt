-- The bytes so far.
use Rattle.std.proofs.Common.{◌≡◌, ◌+◌, take}
use Rattle.std.specs.List.{sum_by}
use Rattle.repl_build.specs.Counts.{bytes_of}
use Rattle.repl_build.proofs.counts.are_too_many_bytes.Given as goal

abbrev pub invariant-loop-p : goal.invariant-loop-p
invariant-loop-p l = l.total ≡ l.bytes + sum_by bytes_of (take l.p-index l.before)
