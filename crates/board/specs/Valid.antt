-- The boards that there can be.
use Rattle.std.specs.Prelude.{◌≡◌, length, map, option_map}
use Rattle.sys_bus.specs.Plan.{IsValid}
use Rattle.board.specs.BoardState.{board_state}
use Rattle.board_space.specs.New.{size_of}
use Rattle.board.specs.View.{View}
pub use Rattle.board_space.specs.Valid.{IsReserved, IsReservation, IsClintFor, IsPlicFor, IsStateFor}

-- a board whose memories, timer and interrupt controller are those of its plan, which is valid, in such a state
pub record IsBoard (v : View) : Type 0 where
  pub plan : IsValid v.space.plan
  pub sizes : map length v.space.memories ≡ v.space.plan.memories
  pub timer : option_map (λ timer. timer.frequency) v.space.timer ≡ v.space.plan.frequency
  pub controller : option_map size_of v.space.controller ≡ v.space.plan.plic
  pub state : IsStateFor v.space.plan (board_state v)
