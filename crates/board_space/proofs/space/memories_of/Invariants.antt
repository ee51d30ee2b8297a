use Rattle.std.proofs.Common.{◌≡◌, map, take}
use Rattle.page_ram.specs.Bytes.{zeros}
use Rattle.board_space.proofs.space.memories_of.Given as goal

abbrev pub invariant-loop-size : goal.invariant-loop-size
invariant-loop-size l = l.memories.items ≡ map zeros (take l.size-index l.sizes)
