-- A board that has a plan, as a snapshot holds it.
use Rattle.std.specs.Prelude.{◌≡◌, ℕ, List, length, map}
use Rattle.board_space.specs.declared.state.BoardState.{BoardState}
use Rattle.sys_bus.specs.declared.plan.BoardPlan.{BoardPlan}
use Rattle.sys_bus.specs.Plan.{IsValid}

-- its plan, what of it changes, and its memories
pub record Machine : Type 0 where
  pub plan : BoardPlan
  pub state : BoardState
  pub memories : List (List ℕ)

-- a board can be made by the plan, and the memories have its sizes
pub record IsMachine (machine : Machine) : Type 0 where
  pub plan : IsValid machine.plan
  pub memories : map length machine.memories ≡ machine.plan.memories
