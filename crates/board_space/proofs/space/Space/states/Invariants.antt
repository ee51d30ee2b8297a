use Rattle.std.proofs.Common.{◌≡◌, map, take}
use Rattle.board_space.proofs.space.Space.states.Given as goal

abbrev pub invariant-loop-device : goal.invariant-loop-device
invariant-loop-device g l = l.states.items ≡ map (λ f. f.state) (take l.device-index l.device-items)
