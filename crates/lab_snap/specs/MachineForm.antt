-- How a board that has a plan is spelled.
use Rattle.std.proofs.Common.{◌<◌, ◌/◌, ◌^◌, ℕ, List, [], ◌∷◌, length, refl, arith}
use Rattle.std.specs.List.{AllByRecursion}
use Rattle.page_ram.specs.Access.{page_size}
use Rattle.sys_bus.specs.declared.plan.BoardPlan.{BoardPlan}
use Rattle.sys_bus.specs.Plan.{IsValid}
use Rattle.lab_encoding.specs.Form.{Form, IsLawful}
use Rattle.lab_encoding.specs.BoardState.{board_state_form, board_state_lawful}
use Rattle.lab_encoding.specs.Combine.{depend, each, marked, number, only, shown, via, ◌⊗◌}
use Rattle.lab_encoding.specs.Inner.Laws.{depend_lawful, each_lawful, marked_lawful, next_lawful, only_lawful}
use Rattle.lab_encoding.specs.Inner.Laws.{shown_lawful, via_lawful}
use Rattle.lab_encoding.specs.Plan.{plan_form, plan_lawful}
use Rattle.lab_snap.specs.Inner.MemoryLaws.{pages_lawful}
use Rattle.lab_snap.specs.Inner.ValidPlan.{is_valid_plan, valid_plan_decides}
use Rattle.lab_snap.specs.Machine.{Machine}
use Rattle.lab_snap.specs.Memory.{memory_form}

-- a plan that a board can be made by
unfoldable pub valid_plan_form : Form BoardPlan
valid_plan_form =
    shown (λ plan. plan_form.Fits plan × IsValid plan) (λ plan. plan) (λ plan. plan) (only is_valid_plan plan_form)

pub valid_plan_lawful : IsLawful valid_plan_form
unfolding valid_plan_form
valid_plan_lawful =
    shown_lawful (λ plan. plan_form.Fits plan × IsValid plan) (λ plan. plan) (λ plan. plan)
    (λ plan fits. (fits.0, (valid_plan_decides plan).1 fits.1)) (λ plan fits. refl)
    (λ plan fits. (fits.0, (valid_plan_decides plan).0 fits.1)) (λ plan fits. refl)
    (only_lawful is_valid_plan plan_lawful)

-- a memory of so many bytes, which are whole pages
abbrev pub sized_form : ℕ → Form (List ℕ)
sized_form size = memory_form (size / page_size)

-- a list of memories of these sizes: their count in 8 bytes, and each of them
unfoldable pub memories_form : List ℕ → Form (List (List ℕ))
memories_form sizes = marked ((number 8).spell (length sizes)) (each sized_form sizes)

sized_lawful : (sizes : List ℕ) → AllByRecursion (λ size. size < 256 ^ 4) sizes →
    AllByRecursion (λ size. IsLawful (sized_form size)) sizes
sized_lawful [] fits = tt
sized_lawful (size ∷ sizes) fits =
    let small = fits.0 in (pages_lawful page_size (size / page_size) (omega arith), sized_lawful sizes fits.1)

pub memories_lawful : (sizes : List ℕ) → AllByRecursion (λ size. size < 256 ^ 4) sizes →
    IsLawful (memories_form sizes)
unfolding memories_form
memories_lawful sizes fits =
    marked_lawful ((number 8).spell (length sizes)) (each_lawful sized_form sizes (sized_lawful sizes fits))

-- the sizes of a plan are numbers of 4 bytes
plan_sizes : (plan : BoardPlan) → valid_plan_form.Fits plan → AllByRecursion (λ size. size < 256 ^ 4) plan.memories
unfolding valid_plan_form plan_form
plan_sizes plan fits = fits.0.1.1.0.1

-- a valid plan, what of the board changes, and a memory for each size of the plan
unfoldable pub machine_form : Form Machine
machine_form =
    via (λ m. (m.plan, (m.state, m.memories)))
    (λ (plan, (state, memories)). record { plan = plan; state = state; memories = memories })
    (depend valid_plan_form (λ plan. board_state_form ⊗ memories_form plan.memories))

pub machine_lawful : IsLawful machine_form
unfolding machine_form
machine_lawful =
    via_lawful _ _ (λ x. refl) (λ a. refl)
    (depend_lawful valid_plan_lawful
    (λ plan fits. next_lawful board_state_lawful (memories_lawful plan.memories (plan_sizes plan fits))))
