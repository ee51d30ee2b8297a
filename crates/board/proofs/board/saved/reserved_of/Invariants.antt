use Rattle.std.proofs.Common.{◌≡◌, take}
use Rattle.board.proofs.board.saved.reserved_of.Given as goal

abbrev pub invariant-loop-hart : goal.invariant-loop-hart
invariant-loop-hart l = l.words.items ≡ take l.hart l.watch
