-- A board as the processor has it that takes a slot.
use Rattle.std.specs.Prelude.{ℕ, List, [], Option}
use Rattle.dev_core.specs.declared.post.Post.{Post}
use Rattle.dev_core.specs.declared.post.Entry.{Entry}
use Rattle.rv_hart.specs.Core.{Core}
use Rattle.board.specs.Numbers.{Numbers}
use Rattle.board_space.specs.Space.{Space}
use Rattle.board.specs.View.{View, core_at}
use Rattle.board.specs.HartBus.{HartBus}

-- the board's numbers, the processor's number and its core, the words that all processors have reserved, and what
-- they reach
pub record HartView : Type 0 where
  pub numbers : Numbers
  pub hart : ℕ
  pub core : Core
  pub watch : List (Option ℕ)
  pub space : Space

-- with what is made in the slot
pub record SlotState : Type 0 where
  pub view : HartView
  pub posts : List Post
  pub entries : List Entry

abbrev pub hart_view : View → ℕ → HartView
hart_view v hart = record {
  numbers = v.numbers;
  hart = hart;
  core = core_at v hart;
  watch = v.watch;
  space = v.space;
}

-- nothing is made
abbrev pub still : HartView → SlotState
still v = record { view = v; posts = []; entries = [] }

-- the bus of the processor in a slot at this microsecond, in which nothing was made yet
abbrev pub bus_of : HartView → ℕ → HartBus
bus_of v t = record { numbers = v.numbers; space = v.space; at = t; posts = []; entries = [] }

-- the processor of a number, with this core, these reservations and this bus
abbrev pub slot_state : ℕ → Core → List (Option ℕ) → HartBus → SlotState
slot_state hart core watch w = record {
  view = record { numbers = w.numbers; hart = hart; core = core; watch = watch; space = w.space };
  posts = w.posts;
  entries = w.entries;
}
