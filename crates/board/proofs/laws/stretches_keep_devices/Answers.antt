use Rattle.board.proofs.NumberLemmas.{kept-stretch}
use Rattle.board.proofs.laws.stretches_keep_devices.Goals as goal

pub returns-clause-kinds : goal.returns-clause-kinds
returns-clause-kinds c = λ v from a n. (kept-stretch v from a n).kinds

pub returns-clause-shown : goal.returns-clause-shown
returns-clause-shown c = λ v from a n. (kept-stretch v from a n).shown
