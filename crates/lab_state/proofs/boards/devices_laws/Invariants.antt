-- The boards so far have the devices of their plans.
use Rattle.std.proofs.Common.{take}
use Rattle.std.specs.List.{All}
use Rattle.std.specs.Option.{ForSome}
use Rattle.lab_state.specs.Inner.Standing.{HasDevices}
use Rattle.lab_state.proofs.boards.devices_laws.Given as goal

abbrev pub invariant-loop-board : goal.invariant-loop-board
invariant-loop-board g l = All (λ board. ForSome board.view HasDevices) (take l.board-index l.boards)
