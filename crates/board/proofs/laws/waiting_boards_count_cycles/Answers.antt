use Rattle.board.proofs.IdleLemmas.{stretch-idle}
use Rattle.board.proofs.laws.waiting_boards_count_cycles.Goals as goal

pub returns : goal.returns
returns c = stretch-idle
