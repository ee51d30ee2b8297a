use Rattle.board.proofs.NumberLemmas.{plan-stretch}
use Rattle.board.proofs.laws.stretches_keep_plans.Goals as goal

pub returns : goal.returns
returns c = plan-stretch
