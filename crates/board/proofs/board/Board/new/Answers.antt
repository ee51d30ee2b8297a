use Rattle.board.proofs.HoldLemmas.{holds_new}
use Rattle.board.proofs.board.Board.new.Goals as goal

pub invariant_of-result : goal.invariant_of-result
invariant_of-result g c =
    rw (c.new-3.ensures, c.in-Ok-new.ensures.numbers, c.in-Ok.ensures, c.new-2.ensures, c.items.ensures)
    (holds_new c.args.number.0 c.args.plan c.requires.plan)
