use Rattle.board.proofs.StretchLemmas.{stretch-add}
use Rattle.board.proofs.laws.stretches_join.Goals as goal

pub returns : goal.returns
returns c = stretch-add
