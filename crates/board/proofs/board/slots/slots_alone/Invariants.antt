use Rattle.std.proofs.Common.{◌≡◌, All, length}
use Rattle.rv_exec.specs.Laws.{IsSameHart}
use Rattle.board_space.specs.Valid.{IsReservation}
use Rattle.board.specs.View.{after}
use Rattle.board.specs.Stretch.{stretch}
use Rattle.board.specs.Inner.Holds.{state_alone}
use Rattle.board.proofs.board.slots.slots_alone.Given as goal

-- The board is as after the slots so far.
abbrev pub invariant-loop-i : goal.invariant-loop-i
invariant-loop-i g l =
    let old = state_alone l.fn.hart l.fn.watch l.fn.bus in
    record {
      run : state_alone l.hart l.watch l.bus ≡ after old (stretch old.view l.now.0 0 l.i);
      same : IsSameHart l.fn.hart l.hart;
      watch : length l.watch ≡ length l.fn.watch;
      reserved :
          All (IsReservation l.fn.bus.space.plan) l.fn.watch → All (IsReservation l.fn.bus.space.plan) l.watch;
    }
