-- The first `at` bytes of the piece have been written, and before the first of them nothing was done.
use Rattle.std.proofs.Common.{◌≡◌, ◌-◌, ◌≤◌, length, take}
use Rattle.lab_io.specs.Frame.{OnlyWrites}
use Rattle.lab_io.specs.Known.{grown}
use Rattle.lab_io.proofs.whole.write_whole.Given as goal

abbrev pub invariant-loop-at : goal.invariant-loop-at
invariant-loop-at g l = record {
  within : l.at ≤ length l.piece;
  untouched : l.at ≡ 0 → l.out ≡ l.fn.out;
  written : g.K.Sink.written l.out ≡ grown (g.K.Sink.written l.fn.out) (take l.at l.piece);
  output : OnlyWrites g.K.Sink ⊥ l.fn.out l.out;
}

abbrev pub decreases-loop-at : goal.decreases-loop-at
decreases-loop-at g l = length l.piece - l.at
