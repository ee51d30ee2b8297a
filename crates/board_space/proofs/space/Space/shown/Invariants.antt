use Rattle.std.proofs.Common.{◌≡◌, map, take}
use Rattle.board_space.proofs.space.Space.shown.Given as goal

abbrev pub invariant-loop-device : goal.invariant-loop-device
invariant-loop-device g l = l.shown.items ≡ map (λ f. f.shown) (take l.device-index l.device-items)
