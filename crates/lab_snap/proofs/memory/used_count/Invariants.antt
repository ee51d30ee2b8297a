use Rattle.std.proofs.Common.{◌≡◌, ◌+◌, ◌≤◌, length}
use Rattle.lab_snap.specs.Memory.{used}
use Rattle.lab_snap.proofs.PageLoops.{left}
use Rattle.lab_snap.proofs.memory.used_count.Given as goal

abbrev pub invariant-loop-k : goal.invariant-loop-k
invariant-loop-k l = record {
  small : l.count ≤ l.k;
  sum : l.count + length (left 4096 l.pages l.k l.memory) ≡ length (used 4096 l.pages l.memory);
}
