use Rattle.lab_state.specs.Run.{run}
use Rattle.monitor.specs.Command.{did}
use Rattle.log_laws.proofs.CheckLemmas.{time_stays}
use Rattle.log_laws.proofs.DryLemmas.{did_rests}
use Rattle.lab_state.proofs.RunLemmas.{run_none}
use Rattle.log_laws.proofs.checking.checks_leave_time.Goals as goal

pub returns : goal.returns
returns c = λ held s dry. time_stays s (did run held s).answer dry (did_rests run run_none held s dry)
