use Rattle.std.proofs.Common.{◌≡◌, ◌∙◌, ap}
use Rattle.lab_encoding.specs.Inner.Laws.{appended}
use Rattle.lab_snap.specs.MachineForm.{machine_form, valid_plan_form}
use Rattle.sys_bus.proofs.PlanLemmas.{ram_sizes}
use Rattle.lab_snap.proofs.saving.encode_machine.Goals as goal

pub encode_memories-requires-clause-whole : goal.encode_memories-requires-clause-whole
encode_memories-requires-clause-whole g c =
    rw (← c.items.ensures) at (ram_sizes c.plan-plan.result.now c.plan-plan.ensures.valid)

pub returns-clause-spelled : goal.returns-clause-spelled
unfolding machine_form valid_plan_form
returns-clause-spelled g c =
    let plan = c.plan-plan.ensures.plan in
    let sizes : c.items.result.now ≡ c.args.board.now.view.space.plan.memories =
    c.items.ensures ∙ ap (λ plan. plan.memories) plan in
    appended (rw plan at c.in_ok-encode.ensures.spelled)
    (appended c.in_ok-encode_state.ensures.spelled (rw sizes at c.in_ok-encode_memories.ensures.spelled))
