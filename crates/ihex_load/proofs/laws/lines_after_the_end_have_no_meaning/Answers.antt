-- Lines after the end, from the lemma.
use Rattle.ihex_load.proofs.LawLemmas.{same_image}
use Rattle.ihex_load.proofs.laws.lines_after_the_end_have_no_meaning.Goals as goal

pub returns : goal.returns
returns c = same_image
