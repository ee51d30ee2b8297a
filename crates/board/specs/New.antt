-- A board at lab time 0, and one that was reset.
use Rattle.std.specs.Prelude.{ℕ, List, length, map, replicate, None}
use Rattle.std.specs.List.{range_with_len}
use Rattle.rv_hart.specs.Core.{Core, initial_with}
use Rattle.rv_hart.specs.declared.letters.Letters.{Letters}
use Rattle.sys_bus.specs.declared.plan.BoardPlan.{BoardPlan}
use Rattle.board.specs.Numbers.{Numbers}
use Rattle.board.specs.Changes.{cleared}
use Rattle.board.specs.View.{View}
pub use Rattle.board_space.specs.New.{first_state, first_states, hidden, new_timer, new_controller}
pub use Rattle.board_space.specs.New.{new_space, reset_device, reset_timer, reset_controller, reset_space, size_of}

-- a new board has made nothing yet, and goes at the speed of its plan
abbrev pub new_numbers : ℕ → BoardPlan → Numbers
new_numbers number plan = record { number = number; speed = plan.speed; posted = 0; entered = 0 }

-- so many processors of these letters, whose numbers are their places
abbrev pub new_cores : ℕ → Letters → List Core
new_cores harts letters = map (initial_with letters) (range_with_len 0 harts)

-- a new board has the processors of its plan, of which the first takes the first slot, and none has a reservation
abbrev pub new_board : ℕ → BoardPlan → View
new_board number plan = record {
  numbers = new_numbers number plan;
  cores = new_cores (length plan.cpus) plan.letters;
  next = 0;
  watch = replicate (length plan.cpus) None;
  space = new_space plan;
}

-- a processor after a reset, which keeps its letters and its number, and stays halted
abbrev pub reset_core : Core → Core
reset_core core = record (initial_with core.letters core.number) { halted = core.halted }

-- a board after a reset: its processors, its timer, its interrupt controller and its devices are in their first states,
-- nothing is reserved, the first processor takes the next slot, and all else is as before
abbrev pub reset : View → View
reset v =
    record v {
      cores = map reset_core v.cores;
      next = 0;
      watch = cleared v.watch;
      space = reset_space v.space;
    }
