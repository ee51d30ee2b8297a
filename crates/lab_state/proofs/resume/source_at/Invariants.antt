-- The boards so far are members, at their speeds.
use Rattle.std.proofs.Common.{◌≡◌, false, map, take}
use Rattle.lab_state.specs.Inner.Time.{numbers_of, speed_of}
use Rattle.lab_state.proofs.resume.source_at.Given as goal

abbrev pub invariant-loop-board : goal.invariant-loop-board
invariant-loop-board g l = record {
  closed : l.source.is_open ≡ false;
  end : l.source.end ≡ l.fn.now.0;
  speeds : map (λ g. g.speed) l.source.handles ≡ map speed_of (numbers_of (take l.board-index l.boards));
}
