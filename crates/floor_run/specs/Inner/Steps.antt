-- What the steps on the bench tell the seat that makes them.
use Rattle.std.specs.Prelude.{◌≡◌, ℕ, ◌+◌, ◌*◌, ◌/◌, ◌%◌, ◌<◌, ◌⊎◌, [], ◌∷◌, Option, Some, None}
use mathlib.Core.Option.{some}
use lib.ListN.{get_elem?}
use Rattle.atomic_table.specs.Table.{Me, Step, rest}
use Rattle.floor_run.specs.declared.view.View.{View}
use Rattle.floor_run.specs.Rule.{home_word}
use Rattle.floor_run.specs.View.{empty_handed, after_claim}

-- a seat: its view, and the cells that it has taken
abbrev pub Seated : Type 0 → Type 0
Seated J = Me (Option J) (View J)

module _ {J : Type 0} where
  -- a report of the job in the cell that the seat has taken: the word counts one report more than the claim found, and
  -- the seat holds nothing then
  abbrev pub reports : (J → ℕ) → Step (Option J) → Seated J → ℕ → Seated J → Type 0
  reports left st m n m' =
      ((i : ℕ) × (job : J) × (i + 1 ≡ st.word) × (m.1 ≡ (i, Some job) ∷ []) ×
      (st.first ≡ home_word left (m.0.found / 4 + 1) job)) × (m' ≡ (empty_handed m.0, rest m.1))

  -- a claim of the board i that found the word n where the board was out or paid up
  abbrev pub Missed : ℕ → Seated J → ℕ → Seated J → Type 0
  Missed i m n m' = ((n % 4 ≡ 1) ⊎ (n % 4 ≡ 3)) × (m' ≡ (after_claim m.0 i n None, m.1))

  module _ (left : J → ℕ) (AfterTurns : J → ℕ → J → Type 0) where
    -- and where it was at home with slots left: the seat has taken the board's cell
    abbrev pub Won : ℕ → Seated J → ℕ → Seated J → Type 0
    Won i m n m' =
        (start : J) × (job : J) × (get_elem? m.0.starts i ≡ some start) × (n % 4 ≡ 0) × AfterTurns start (n / 4) job
        × (4096 * (n / 4) < left start) × (left start < 18446744073709551616)
        × (m' ≡ (after_claim m.0 i n (Some job), (i, Some job) ∷ m.1))

    -- a claim wins where bit 0 of the word was 0
    abbrev pub claims : Step (Option J) → Seated J → ℕ → Seated J → Type 0
    claims st m n m' =
        (n % 2 ≡ 0 → (i : ℕ) × (i + 1 ≡ st.word) × Won i m n m') ×
        (n % 2 ≡ 1 → (i : ℕ) × (i + 1 ≡ st.word) × Missed i m n m')
