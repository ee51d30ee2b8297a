-- How many workers run the boards. No result of a round or a run depends on it.
use Rattle.std.specs.Prelude.{ℕ, ◌≡◌, ◌≤◌, ◌*◌, Bool, false, not, ◌||◌, if◌then◌else◌, length, min, max}
use Rattle.std.specs.List.{list_all}
use Rattle.std.specs.Option.{option_map_or}
use Rattle.lab_state.specs.Board.{Board}
use Rattle.lab_state.specs.Lab.{Lab}

-- what contracts see of a team: whether it has helpers, and how many hands it is to have with its leader's
pub record Team : Type 0 where
  pub has_helpers : Bool
  pub hands : ℕ

-- whether a board has a processor that neither waits nor is halted
abbrev pub is_awake : Board → Bool
is_awake board =
    option_map_or (λ v. not (list_all (λ core. core.halted || core.waiting) v.cores)) board.view false

-- the fewest slots of a round that is shared: starting threads takes longer than calling helpers
abbrev pub least_shared : Team → ℕ
least_shared team = if team.has_helpers then 8192 else 16384

-- So many hands are right for a run of a length by so many workers: no more than there are workers and boards, and
-- exactly as many where the run has a thousand rounds.
pub record AreHandsFor (lab : Lab) (d workers hands : ℕ) : Type 0 where
  pub of_workers : 1 ≤ workers → hands ≤ workers
  pub of_boards : hands ≤ max 1 (length lab.boards)
  pub all : 2 ≤ length lab.boards → 1000 * lab.quantum ≤ d → hands ≡ min workers (length lab.boards)
