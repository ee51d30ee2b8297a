use Rattle.std.proofs.Common.{◌≡◌, ◌≤◌, ◌-◌, length, take}
use Rattle.board_space.specs.Changes.{copied}
use Rattle.board_space.proofs.space.Space.copy_in.Given as goal

-- The first bytes are written.
abbrev pub invariant-loop-done : goal.invariant-loop-done
invariant-loop-done g l = record {
  done : l.done ≤ length l.bytes;
  self : l.self ≡ copied l.fn.self l.at (take l.done l.bytes);
}

abbrev pub decreases-loop-done : goal.decreases-loop-done
decreases-loop-done g l = length l.bytes - l.done
