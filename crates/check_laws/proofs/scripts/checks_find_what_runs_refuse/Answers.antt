use Rattle.lab_top.specs.Request.{request_of}
use Rattle.check_laws.proofs.RunLemmas.{run_later}
use Rattle.check_laws.proofs.ScriptLemmas.{commands_found, script_found}
use Rattle.check_laws.proofs.scripts.checks_find_what_runs_refuse.Goals as goal

pub returns-clause-commands : goal.returns-clause-commands
returns-clause-commands c =
    λ held kept stored s t fault alike known fits checked_fits gets out.
    commands_found (run_later c.stretches_keep_plans.ensures) held fault known kept stored s t alike fits checked_fits
    gets out

pub returns-clause-scripts : goal.returns-clause-scripts
returns-clause-scripts c =
    λ words others script setting held kept stored fault is also known fits checked_fits gets out.
    script_found (run_later c.stretches_keep_plans.ensures) held fault known kept stored (request_of words)
    (request_of others) script setting is also fits checked_fits gets out
