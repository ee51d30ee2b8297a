-- What a board keeps.
use Rattle.std.specs.Prelude.{◌≡◌, ℕ, ◌%◌, ◌<◌, ◌≤◌, List, [], ◌∷◌, Option, All, length, map}
use Rattle.std.specs.List.{range_with_len}
use Rattle.rv_hart.specs.Core.{Core}
use Rattle.board_space.specs.Valid.{IsReservation}
use Rattle.board.specs.View.{View, State}
use Rattle.board.specs.HartBus.{HartBus}

-- a board of these processors, of which this one takes the next slot, with these reservations and this bus
abbrev pub state_of : List Core → ℕ → List (Option ℕ) → HartBus → State
state_of cores next watch w = record {
  view = record { numbers = w.numbers; cores = cores; next = next; watch = watch; space = w.space };
  posts = w.posts;
  entries = w.entries;
}

-- a board of one processor
abbrev pub state_alone : Core → List (Option ℕ) → HartBus → State
state_alone core watch w = state_of (core ∷ []) 0 watch w

pub record Holds (v : View) : Type 0 where
  -- the speed is a multiple of the number of processors
  pub least : 1 ≤ v.numbers.speed
  pub most : v.numbers.speed ≤ 1000
  pub shared : v.numbers.speed % length v.cores ≡ 0
  -- the processors are those of the plan, and have its letters and their places as numbers
  pub harts : length v.cores ≡ length v.space.plan.cpus
  pub letters : All (λ core. core.letters ≡ v.space.plan.letters) v.cores
  pub numbers : map (λ core. core.number) v.cores ≡ range_with_len 0 (length v.cores)
  -- the one that takes the next slot is one of them, and each may have a reservation, of a word of a memory
  pub next : v.next < length v.cores
  pub watch : length v.watch ≡ length v.cores
  pub reserved : All (IsReservation v.space.plan) v.watch
