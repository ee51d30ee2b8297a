use Rattle.board.proofs.NumberLemmas.{numbered_stretch}
use Rattle.board.proofs.laws.stretches_number.Goals as goal

pub returns : goal.returns
returns c = numbered_stretch
