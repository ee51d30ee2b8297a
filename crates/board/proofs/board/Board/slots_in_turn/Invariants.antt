use Rattle.std.proofs.Common.{◌≡◌}
use Rattle.board.specs.View.{after}
use Rattle.board.specs.Stretch.{stretch}
use Rattle.board.proofs.board.Board.slots_in_turn.Given as goal

-- The board is as after the slots so far.
abbrev pub invariant-loop-i : goal.invariant-loop-i
invariant-loop-i g l = record { run : l.self ≡ after l.fn.self (stretch l.fn.self.view l.now.0 0 l.i) }
