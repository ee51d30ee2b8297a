-- The numbers of the boards, and what the source of time keeps of them.
use Rattle.std.specs.Prelude.{◌≡◌, ℕ, ◌*◌, ◌≤◌, false, List, map, slice_get, Option, Some}
use Rattle.std.specs.Option.{option_map, option_map_or}
use Rattle.board.specs.Numbers.{Numbers}
use Rattle.time_handle.specs.Grant.{Grant, fresh, paid_by}
use Rattle.time_source.specs.Tree.{Tree}
use Rattle.lab_state.specs.Board.{Board}

-- the numbers of a board that has a plan
abbrev pub number_of : Board → Option Numbers
number_of board = option_map (λ v. v.numbers) board.view

abbrev pub numbers_of : List Board → List (Option Numbers)
numbers_of boards = map number_of boards

-- the speed of a board; a board without a plan is a member at the least speed, and its slots are nobody's
abbrev pub speed_of : Option Numbers → ℕ
speed_of n = option_map_or (λ n. n.speed) n 1

-- a board of this number, at a speed that a board may have, which has made at most so many posts and entries
pub record IsStanding (most b : ℕ) (n : Numbers) : Type 0 where
  pub number : n.number ≡ b
  pub least_speed : 1 ≤ n.speed
  pub most_speed : n.speed ≤ 1000
  pub few_posts : n.posted ≤ most
  pub few_entries : n.entered ≤ most

-- so stands what is found at a place, if that is a board that has a plan
abbrev pub StandsAt : ℕ → ℕ → Option (Option Numbers) → Type 0
StandsAt most b found = (n : Numbers) → found ≡ Some (Some n) → IsStanding most b n

-- each board has its place as its number
abbrev pub AreStanding : ℕ → List (Option Numbers) → Type 0
AreStanding most numbers = (b : ℕ) → StandsAt most b (slice_get numbers b)

-- no grant is open, the members have the boards' speeds, and each board has made at most a post and an entry a slot
pub record IsTimed (source : Tree) (numbers : List (Option Numbers)) : Type 0 where
  pub closed : source.is_open ≡ false
  pub speeds : map (λ g. g.speed) source.handles ≡ map speed_of numbers
  pub standing : AreStanding (1000 * source.end) numbers

-- the part of a board in the grant of a round, and a grant when its slots are used
abbrev pub part_of : ℕ → ℕ → Board → Grant
part_of from to board = fresh from to (speed_of (number_of board))

abbrev pub used_up : Grant → Grant
used_up g = record g { used = paid_by g }
