-- A run of no time has no rounds.
use Rattle.lab_state.proofs.RunLemmas.{run_none}
use Rattle.lab_laws.proofs.runs.runs_of_no_time_change_nothing.Goals as goal

pub returns : goal.returns
returns c = λ lab some. run_none lab
