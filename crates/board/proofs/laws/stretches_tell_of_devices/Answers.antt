use Rattle.board.proofs.SentLemmas.{senders-stretch, told-stretch}
use Rattle.board.proofs.laws.stretches_tell_of_devices.Goals as goal

pub returns-clause-sent : goal.returns-clause-sent
returns-clause-sent c = senders-stretch

pub returns-clause-told : goal.returns-clause-told
returns-clause-told c = told-stretch
