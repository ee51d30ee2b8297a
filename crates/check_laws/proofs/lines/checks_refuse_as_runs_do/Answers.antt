use Rattle.check_laws.proofs.LineLemmas.{did_found}
use Rattle.check_laws.proofs.RunLemmas.{run_later}
use Rattle.check_laws.proofs.SameLemmas.{begins_alike, joined_alike}
use Rattle.check_laws.proofs.lines.checks_refuse_as_runs_do.Goals as goal

pub returns-clause-read : goal.returns-clause-read
returns-clause-read c =
    λ held s t alike. (did_found (run_later c.stretches_keep_plans.ensures) held s t alike).0

pub returns-clause-answered : goal.returns-clause-answered
returns-clause-answered c =
    λ held s t alike. (did_found (run_later c.stretches_keep_plans.ensures) held s t alike).1

pub returns-clause-loaded : goal.returns-clause-loaded
returns-clause-loaded c = λ s t lab lines alike. joined_alike s t alike lab lines

pub returns-clause-begun : goal.returns-clause-begun
returns-clause-begun c = λ script text setting. begins_alike script text setting
