use Rattle.plic.proofs.CourseLemmas.{stays_shut}
use Rattle.plic.proofs.laws.gateways_await_completion.Goals as goal

pub returns : goal.returns
returns c = stays_shut
