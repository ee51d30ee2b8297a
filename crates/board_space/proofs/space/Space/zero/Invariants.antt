use Rattle.std.proofs.Common.{◌≡◌, ◌≤◌, ◌-◌}
use Rattle.page_ram.specs.Bytes.{zeros}
use Rattle.board_space.specs.Changes.{copied}
use Rattle.board_space.proofs.space.Space.zero.Given as goal

-- The first bytes are 0.
abbrev pub invariant-loop-done : goal.invariant-loop-done
invariant-loop-done g l = record {
  done : l.done ≤ l.count;
  self : l.self ≡ copied l.fn.self l.at (zeros l.done);
}

abbrev pub decreases-loop-done : goal.decreases-loop-done
decreases-loop-done g l = l.count - l.done
