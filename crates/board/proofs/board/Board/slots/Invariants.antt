use Rattle.std.proofs.Common.{◌≡◌, ◌+◌, ◌*◌, ◌-◌, ◌<◌, ◌≤◌}
use Rattle.board.specs.View.{after}
use Rattle.board.specs.Stretch.{stretch}
use Rattle.board.proofs.board.Board.slots.Given as goal

-- The board is as after the slots so far, and the next slot lies in this microsecond.
abbrev pub invariant-loop-i : goal.invariant-loop-i
invariant-loop-i g l = record {
  run : l.self ≡ after l.fn.self (stretch l.fn.self.view l.at.from.0 l.at.first l.i);
  next : l.at.first + l.i ≡ l.micros * l.speed + l.within;
  within : l.within < l.speed;
  most : l.i ≤ l.n;
}

abbrev pub decreases-loop-i : goal.decreases-loop-i
decreases-loop-i g l = l.n - l.i
