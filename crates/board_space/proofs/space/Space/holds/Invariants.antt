use Rattle.std.proofs.Common.{◌≡◌, ◌+◌}
use Rattle.board_space.specs.Changes.{holds_each}
use Rattle.board_space.proofs.space.Space.holds.Given as goal

-- All bytes before this address are in memories.
abbrev pub invariant-loop-left : goal.invariant-loop-left
invariant-loop-left g l = record {
  rest : holds_each l.self l.at l.count ≡ holds_each l.self l.next l.left;
  end : l.next + l.left ≡ l.at + l.count;
}

abbrev pub decreases-loop-left : goal.decreases-loop-left
decreases-loop-left g l = l.left
