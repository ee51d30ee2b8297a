-- Devices of the kinds so far are taken, and there is room for the others.
use Rattle.std.proofs.Common.{◌≡◌, ◌+◌, ◌≤◌, map, take, length, vec_len, vec_capacity}
use Rattle.board.specs.New.{first_state}
use Rattle.lab_state.specs.Inner.Spares.{AreTaken}
use Rattle.lab_state.proofs.spares.Spares.take.Given as goal

abbrev pub invariant-loop-kind : goal.invariant-loop-kind
invariant-loop-kind g l = record {
  devices : map g.D.Device.meaning l.devices.items ≡ map first_state (take l.kind-index l.kinds);
  taken : AreTaken l.fn.self l.self (take l.kind-index l.kinds);
  room : length l.kinds + vec_len l.devices ≤ vec_capacity l.devices + l.kind-index;
}
