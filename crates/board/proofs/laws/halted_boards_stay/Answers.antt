use Rattle.board.proofs.IdleLemmas.{stretch-halted}
use Rattle.board.proofs.laws.halted_boards_stay.Goals as goal

pub returns : goal.returns
returns c = stretch-halted
