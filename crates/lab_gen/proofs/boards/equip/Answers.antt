use Rattle.std.proofs.Common.{◌∙◌}
use Rattle.lab_gen.proofs.MoreBoards.{last_bare, last_exists, fitted_last, fitted_has, fitted_holds}
use Rattle.lab_gen.proofs.MoreBoards.{fitted_processor, loaded_last}
use Rattle.lab_gen.proofs.boards.equip.Goals as goal

pub fit_plan-requires-clause-exists : goal.fit_plan-requires-clause-exists
fit_plan-requires-clause-exists g c = last_exists _ _ _ _ c.requires

pub fit_plan-requires-clause-bare : goal.fit_plan-requires-clause-bare
fit_plan-requires-clause-bare g c = last_bare _ _ _ c.requires

pub load-requires-clause-has_plan : goal.load-requires-clause-has_plan
load-requires-clause-has_plan g c = fitted_has _ _ _ (fitted_last _ _ _ _ c.requires c.in_ok-fit_plan.ensures)

pub load-requires-clause-has_processor : goal.load-requires-clause-has_processor
load-requires-clause-has_processor g c =
    fitted_processor _ _ _ (fitted_last _ _ _ _ c.requires c.in_ok-fit_plan.ensures)

pub load-requires-clause-holds : goal.load-requires-clause-holds
load-requires-clause-holds g c =
    rw c.deref.ensures.value
    (fitted_holds _ _ _ _ (fitted_last _ _ _ _ c.requires c.in_ok-fit_plan.ensures) c.in_ok-bytes.ensures)

pub returns : goal.returns
returns g c =
    loaded_last _ _ _ _ _ (fitted_last _ _ _ _ c.requires c.in_ok-fit_plan.ensures)
    (c.deref.ensures.value ∙ c.in_ok-bytes.ensures) c.in_ok-load.ensures
