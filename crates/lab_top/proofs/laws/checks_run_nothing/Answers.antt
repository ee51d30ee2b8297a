use Rattle.lab_top.proofs.Settings.{runs_nothing}
use Rattle.lab_top.proofs.laws.checks_run_nothing.Goals as goal

pub returns : goal.returns
returns c = runs_nothing
