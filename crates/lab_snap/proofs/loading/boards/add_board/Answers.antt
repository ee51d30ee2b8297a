-- The board is added, and gets its plan and its memories.
use Rattle.lab_snap.proofs.BoardLemmas.{board_added}
use Rattle.lab_snap.proofs.loading.boards.add_board.Goals as goal

pub returns-clause-ok : goal.returns-clause-ok
returns-clause-ok g c =
    board_added c.args.lab.now c.args.board c.in-Some.machine c.in_ok-number.number.0 c.into_parts-plan.result
    c.in-Some.is c.into_parts-plan.ensures.parts c.in_ok-number.ensures.number
    (rw c.as_str.ensures at c.in_ok-number.ensures.ok) c.in_ok-make.ensures.ok
