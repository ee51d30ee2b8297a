-- One board more.
use Rattle.std.specs.Option.{ForSome}
use Rattle.std.proofs.lemmas.List.Elements.{All-more}
use Rattle.lab_state.specs.Inner.Standing.{HasDevices}
use Rattle.lab_state.specs.Board.{Board}
use Rattle.lab_state.proofs.ListLemmas.{All-whole}
use Rattle.lab_state.proofs.boards.devices_laws.Goals as goal

pub loop-board-preserved : goal.loop-board-preserved
loop-board-preserved g c =
    All-more (λ (board : Board). ForSome board.view HasDevices) c.args.boards.now c.loop-board.board-index
    c.board-item.result c.loop-board-test.true c.loop-board.invariant
    (rw c.board-item.is at c.devices_law.ensures)

pub returns : goal.returns
returns g c =
    All-whole (λ (board : Board). ForSome board.view HasDevices) c.args.boards.now c.loop-board.board-index
    c.loop-board-test.false c.loop-board.invariant
