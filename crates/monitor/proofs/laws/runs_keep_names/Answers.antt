use Rattle.monitor.proofs.NameLemmas.{run_keeps}
use Rattle.monitor.proofs.laws.runs_keep_names.Goals as goal

pub returns : goal.returns
returns c = run_keeps c.stretches_keep_plans.ensures
