-- The second run is refused exactly where the first is.
use Rattle.std.proofs.Common.{refl}
use Rattle.std.proofs.lemmas.Result.{err_from_is_err_and}
use Rattle.lab_laws.proofs.FaultLemmas.{handed_on, both_made, not_refused}
use Rattle.lab_laws.proofs.workers.any_workers_agree.Goals as goal

pub returns-in_err-first-clause-no_plan : goal.returns-in_err-first-clause-no_plan
returns-in_err-first-clause-no_plan g c b =
    let exit = err_from_is_err_and c.from_residual.result c.from_residual.ensures.1 in
    handed_on c.in_err-first.field-0.0 _ c.from_residual.result b refl (rw (← exit.2) exit.1)
    (c.in_err-first.ensures.no_plan b)

pub returns-in_err-second-clause-no_plan : goal.returns-in_err-second-clause-no_plan
returns-in_err-second-clause-no_plan g c b =
    let exit = err_from_is_err_and c.from_residual-in_err-second.result c.from_residual-in_err-second.ensures.1 in
    handed_on c.in_err-second.field-0.0 _ c.from_residual-in_err-second.result b refl (rw (← exit.2) exit.1)
    (rw (← c.requires.alike) at (c.in_err-second.ensures.no_plan b))

pub returns-in_err-second-clause-unchanged : goal.returns-in_err-second-clause-unchanged
returns-in_err-second-clause-unchanged g c =
    let exit = err_from_is_err_and c.from_residual-in_err-second.result c.from_residual-in_err-second.ensures.1 in
    not_refused _ c.in_err-second.field-0.0 _ _ c.in_ok-first.first c.from_residual-in_err-second.result refl refl
    (rw (← exit.2) exit.1) c.in_ok-first.ensures.no_plan c.in_ok-first.ensures.too_long
    (λ b. rw (← c.requires.alike) at (c.in_err-second.ensures.no_plan b))
    (rw (← c.requires.alike) at c.in_err-second.ensures.too_long)

pub returns-clause-no_plan : goal.returns-clause-no_plan
returns-clause-no_plan g c b =
    both_made _ _ c.in_ok-first.first (c.in_ok-first.first, c.in_ok-second.second) b refl refl
    (c.in_ok-first.ensures.no_plan b)
