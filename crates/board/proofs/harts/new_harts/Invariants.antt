use Rattle.std.proofs.Common.{◌≡◌}
use Rattle.board.specs.New.{new_cores}
use Rattle.board.proofs.harts.new_harts.Given as goal

abbrev pub invariant-loop-number : goal.invariant-loop-number
invariant-loop-number l = l.harts.items ≡ new_cores l.number l.letters
