use Rattle.std.proofs.Common.{◌≡◌, map, take}
use Rattle.rv_hart.specs.HartState.{state_of}
use Rattle.board.proofs.harts.states_of.Given as goal

abbrev pub invariant-loop-hart : goal.invariant-loop-hart
invariant-loop-hart l = l.states.items ≡ map state_of (take l.hart-index l.harts)
