use Rattle.plic.proofs.CourseLemmas.{awaits_completion}
use Rattle.plic.proofs.laws.claimed_sources_await_completion.Goals as goal

pub returns : goal.returns
returns c = awaits_completion
