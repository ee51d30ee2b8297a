use Rattle.lab_gen.proofs.Plans.{plan_valid}
use Rattle.lab_gen.proofs.boards.fit_plan.Goals as goal

pub fit-requires-clause-plan : goal.fit-requires-clause-plan
fit-requires-clause-plan g c = rw c.in_ok-made.ensures plan_valid
