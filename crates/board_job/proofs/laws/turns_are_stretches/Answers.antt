use Rattle.board_job.proofs.SlotLemmas.{turn_is}
use Rattle.board_job.proofs.laws.turns_are_stretches.Goals as goal

pub returns : goal.returns
returns c = turn_is c.stretches_join.ensures c.stretches_number.ensures
