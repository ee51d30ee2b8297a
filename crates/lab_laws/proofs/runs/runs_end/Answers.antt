-- The first round that has a pause is the last.
use Rattle.lab_laws.proofs.EndLemmas.{runs-end}
use Rattle.lab_laws.proofs.runs.runs_end.Goals as goal

pub returns : goal.returns
returns c = runs-end
