-- The memories and devices of a board that is brought to a state.
use Rattle.std.specs.Prelude.{map, zip, Bool, List, Option, Some, None}
use Rattle.clint.specs.Clint.{Timer}
use Rattle.clint.specs.declared.state.ClintState.{ClintState}
use Rattle.dev_core.specs.declared.state.DevState.{DevState}
use Rattle.plic.specs.declared.state.PlicState.{PlicState}
use Rattle.plic.specs.State.{Controller}
use Rattle.board_space.specs.declared.state.BoardState.{BoardState}
use Rattle.board_space.specs.Space.{Space, BoardDevice}

-- a timer and an interrupt controller that are brought to a state, and stay where none is given
abbrev pub timer_to : Option Timer → Option ClintState → Option Timer
timer_to (Some timer) (Some state) = Some (record timer { state = state })
timer_to (Some timer) None = Some timer
timer_to None state = None

abbrev pub controller_to : Option Controller → Option PlicState → Option Controller
controller_to (Some controller) (Some state) = Some (record controller { state = state })
controller_to (Some controller) None = Some controller
controller_to None state = None

-- devices in these states, shown or not
abbrev pub devices_in : List DevState → List Bool → List BoardDevice
devices_in states shown = map (λ (state, shown). record { state = state; shown = shown }) (zip states shown)

abbrev pub space_to : Space → BoardState → Space
space_to space s = record space {
  timer = timer_to space.timer s.clint;
  controller = controller_to space.controller s.plic;
  devices = devices_in s.devices s.shown;
}
