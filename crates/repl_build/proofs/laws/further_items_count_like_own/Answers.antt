use Rattle.repl_build.proofs.UpdateLemmas.{updates_count}
use Rattle.repl_build.proofs.laws.further_items_count_like_own.Goals as goal

pub returns : goal.returns
returns c = updates_count
