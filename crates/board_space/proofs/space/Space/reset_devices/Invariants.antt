use Rattle.std.proofs.Common.{◌≡◌, ◌++◌, map, take, drop}
use Rattle.board_space.specs.New.{reset_device}
use Rattle.board_space.proofs.space.Space.reset_devices.Given as goal

-- The devices so far are reset.
abbrev pub invariant-loop-device : goal.invariant-loop-device
invariant-loop-device g l =
    l.device-items
    ≡ map reset_device (take l.device-index l.initial.device-items) ++ drop l.device-index l.initial.device-items
