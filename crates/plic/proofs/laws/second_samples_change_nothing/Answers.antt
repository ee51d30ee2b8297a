use Rattle.plic.proofs.CourseLemmas.{samples_once}
use Rattle.plic.proofs.laws.second_samples_change_nothing.Goals as goal

pub returns : goal.returns
returns c = samples_once
