-- What of a board changes, its memories aside.
use Rattle.std.specs.Prelude.{map, option_map}
use Rattle.rv_hart.specs.HartState.{core_of, state_of}
use Rattle.board_space.specs.declared.state.BoardState.{BoardState}
use Rattle.board.specs.Numbers.{Numbers}
use Rattle.board.specs.View.{View}
pub use Rattle.board_space.specs.BoardState.{timer_to, controller_to, devices_in, space_to}

-- the state of a board: its speed, its processors, which of them is next, what they have reserved, its timer and its
-- interrupt controller where it has them, its devices and which of them are shown, and how many posts and log entries
-- it has made
abbrev pub board_state : View → BoardState
board_state v = record {
  speed = v.numbers.speed;
  harts = map state_of v.cores;
  next = v.next;
  reserved = v.watch;
  clint = option_map (λ timer. timer.state) v.space.timer;
  plic = option_map (λ controller. controller.state) v.space.controller;
  devices = map (λ fitted. fitted.state) v.space.devices;
  shown = map (λ fitted. fitted.shown) v.space.devices;
  posted = v.numbers.posted;
  entries = v.numbers.entered;
}

abbrev pub numbers_to : Numbers → BoardState → Numbers
numbers_to n s = record n { speed = s.speed; posted = s.posted; entered = s.entries }

-- a board that is brought to a state: its number, its plan and its memories stay
abbrev pub brought_to : View → BoardState → View
brought_to v s = record {
  numbers = numbers_to v.numbers s;
  cores = map core_of s.harts;
  next = s.next;
  watch = s.reserved;
  space = space_to v.space s;
}
