use Rattle.std.specs.Bool.{one_answer}
use Rattle.lab_snap.specs.Inner.ValidPlan.{is_valid_plan, valid_plan_decides}
use Rattle.lab_snap.proofs.machine.is_valid.Goals as goal

pub returns-clause-test : goal.returns-clause-test
returns-clause-test c =
    one_answer _ (is_valid_plan c.args.plan.now) c.is_valid.ensures (valid_plan_decides c.args.plan.now)
