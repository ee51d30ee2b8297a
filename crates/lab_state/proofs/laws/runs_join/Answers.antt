-- The rounds of both runs, one after another.
use Rattle.lab_state.proofs.RunLemmas.{runs-join}
use Rattle.lab_state.proofs.laws.runs_join.Goals as goal

pub returns : goal.returns
returns c = runs-join
