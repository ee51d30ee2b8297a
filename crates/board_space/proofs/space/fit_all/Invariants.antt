use Rattle.std.proofs.Common.{◌≡◌, ◌≤◌, ◌+◌, ◌++◌, map}
use Rattle.std.specs.Vec.{vec_len, vec_capacity}
use Rattle.std.specs.VecDeque.{deque_len}
use Rattle.board_space.specs.New.{hidden}
use Rattle.board_space.proofs.space.fit_all.Given as goal

-- Each device is fitted or still to come, and there is room for those to come.
abbrev pub invariant-loop-device : goal.invariant-loop-device
invariant-loop-device g l = record {
  items :
      l.fitted.items ++ map hidden (map g.D.Device.meaning l.rest.items)
      ≡ map hidden (map g.D.Device.meaning l.fn.devices.items);
  room : vec_len l.fitted + deque_len l.rest ≤ vec_capacity l.fitted;
}

abbrev pub decreases-loop-device : goal.decreases-loop-device
decreases-loop-device g l = deque_len l.rest
