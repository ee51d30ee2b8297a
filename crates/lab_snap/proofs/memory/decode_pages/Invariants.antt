use Rattle.std.proofs.Common.{◌≡◌, ◌*◌, length}
use Rattle.lab_snap.proofs.PageLoops.{IsHalfLoaded}
use Rattle.lab_snap.proofs.memory.decode_pages.Given as goal

abbrev pub invariant-loop : goal.invariant-loop
invariant-loop l = record {
  size : length l.memory ≡ 4096 * l.pages;
  so_far : IsHalfLoaded 4096 l.pages l.count l.fn.reader l.fn.memory l.low l.counter l.reader l.memory;
}
