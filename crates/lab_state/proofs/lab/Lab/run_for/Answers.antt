-- The rounds of a run are the run.
use Rattle.std.proofs.Common.{◌≡◌, false, arith, refl}
use Rattle.std.proofs.lemmas.Result.{err_from_is_err_and}
use Rattle.lab_state.proofs.FaultLemmas.{no_plan_told}
use Rattle.lab_state.proofs.lab.Lab.run_for.Goals as goal

pub returns-clause-lab : goal.returns-clause-lab
returns-clause-lab g c = grind (arith, c.in_ok-run.ensures.lab)

pub returns-clause-lines : goal.returns-clause-lines
returns-clause-lines g c = grind (arith, c.in_ok-run.ensures.lines)

pub returns-clause-paused : goal.returns-clause-paused
returns-clause-paused g c = grind (arith, c.in_ok-run.ensures.paused)

pub returns-in_err-admit_run-clause-no_plan : goal.returns-in_err-admit_run-clause-no_plan
returns-in_err-admit_run-clause-no_plan g c b =
    let exit = err_from_is_err_and c.from_residual.result c.from_residual.ensures.1 in
    let unspent : c.args.self.now.spent ≡ false = rw (← c.self.view_is) c.if-self.false in
    no_plan_told c.in_err-admit_run.field-0.0 _ c.from_residual.result b refl (rw (← exit.2) exit.1) unspent
    (c.in_err-admit_run.ensures.no_plan b)
