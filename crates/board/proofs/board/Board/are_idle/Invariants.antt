use Rattle.std.proofs.Common.{◌≡◌, ℕ, ◌<◌}
use Rattle.std.specs.Prelude.{IsTrue}
use Rattle.board.specs.Idle.{is_idle}
use Rattle.board_space.specs.Lines.{sampled, timer_up, mip_of}
use Rattle.board.specs.View.{core_at}
use Rattle.board.proofs.board.Board.are_idle.Given as goal

-- Those so far are idle, and the board is as it was.
abbrev pub invariant-loop-hart : goal.invariant-loop-hart
invariant-loop-hart g l = record {
  same : l.self ≡ l.fn.self;
  settled : 0 < l.hart → sampled l.fn.self.view.space ≡ l.fn.self.view.space;
  rests : (k : ℕ) → k < l.hart →
      IsTrue (is_idle (core_at l.fn.self.view k)
      (mip_of l.fn.self.view.space (timer_up l.fn.self.view.space.timer l.now.0) k));
}
