use Rattle.board.proofs.SentLemmas.{sent-stretch}
use Rattle.board.proofs.laws.stretches_keep_time.Goals as goal

pub returns : goal.returns
returns c = sent-stretch
