use Rattle.board.proofs.SentLemmas.{entered-stretch}
use Rattle.board.proofs.laws.stretches_keep_time_of_entries.Goals as goal

pub returns : goal.returns
returns c = entered-stretch
