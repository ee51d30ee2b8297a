-- What stays of a board while it runs, as far as a line may be refused for it.
use Rattle.std.specs.Prelude.{ℕ, List, length, Option}
use Rattle.std.specs.Option.{option_map}
use Rattle.board.specs.View.{View}
use Rattle.lab_state.specs.Board.{Board}
use Rattle.sys_bus.specs.declared.plan.BoardPlan.{BoardPlan}

-- the plan of a board, and how many processors it has
pub record Equipment : Type 0 where
  pub plan : BoardPlan
  pub harts : ℕ

-- the name of a board, and its equipment if it has a platform
pub record Standing : Type 0 where
  pub name : List ℕ
  pub equipment : Option Equipment

abbrev pub equipment_of : View → Equipment
equipment_of v = record { plan = v.space.plan; harts = length v.cores }

abbrev pub standing : Board → Standing
standing board = record { name = board.name; equipment = option_map equipment_of board.view }
