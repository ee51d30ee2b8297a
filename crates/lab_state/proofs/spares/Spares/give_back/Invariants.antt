-- The devices that are left can be put back.
use Rattle.std.proofs.Common.{◌≡◌, ◌+◌, map, length}
use Rattle.std.specs.Prelude.{All}
use Rattle.dev_core.specs.declared.kind.Kind.{Kind}
use Rattle.dev_core.specs.Device.{kind_of}
use Rattle.sys_bus.specs.Limits.{count_of}
use Rattle.board.specs.New.{first_state}
use Rattle.lab_state.specs.Inner.Spares.{left_of, kinds_of, HasRoomFor}
use Rattle.lab_state.proofs.spares.Spares.give_back.Given as goal

abbrev pub invariant-loop-device : goal.invariant-loop-device
invariant-loop-device g l = record {
  reset :
      All (λ d. g.D.Device.meaning d ≡ first_state (kind_of (g.D.Device.meaning d))) l.devices.items;
  room : HasRoomFor l.self (kinds_of (map g.D.Device.meaning l.devices.items));
  given :
      (kind : Kind) →
      left_of l.self kind + count_of (kinds_of (map g.D.Device.meaning l.devices.items)) kind
      ≡ left_of l.fn.self kind + count_of (kinds_of (map g.D.Device.meaning l.fn.devices.items)) kind;
}

abbrev pub decreases-loop-device : goal.decreases-loop-device
decreases-loop-device g l = length l.devices.items
