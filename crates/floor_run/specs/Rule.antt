-- The rule of the bench, which holds at every moment.
-- Word 0 stays 0. Word i + 1 belongs to board i, and cell i holds that board's job.
use Rattle.std.specs.Prelude.{◌≡◌, ◌==◌, ℕ, ◌+◌, ◌*◌, ◌/◌, ◌%◌, ◌<◌, ◌≤◌, if◌then◌else◌, false, List, length, Option}
use Rattle.std.specs.Prelude.{Some, slice_index_or}
use mathlib.Core.Option.{some}
use mathlib.Core.Option as maybe
use lib.ListN.{get_elem?}
use Rattle.atomic_table.specs.Table.{State}
use Rattle.floor_run.specs.declared.view.View.{View}

-- where a board is: at home with slots left, out with the seat of this number, or at home and paid up
pub data Whereabouts : Type 0 where
  home : Whereabouts
  out : ℕ → Whereabouts
  done : Whereabouts

-- the word of a board that was reported so often
abbrev pub word_of : ℕ → Whereabouts → ℕ
word_of r home = 4 * r
word_of r (out seat) = 4 * r + 1
word_of r done = 4 * r + 3

-- the word of a board at home that was reported so often and has this job
abbrev pub home_word : {J : Type 0} → (J → ℕ) → ℕ → J → ℕ
home_word left r job = word_of r (if left job == 0 then done else home)

-- how often a board was reported, and where it is
abbrev pub Tally : Type 0
Tally = ℕ × Whereabouts

-- the cells, each with what lies in it unless a seat has taken it
abbrev pub Homes : Type 0 → Type 0
Homes J = List (maybe.Option (Option J))

-- words, cells and views
abbrev pub Table : Type 0 → Type 0
Table J = State (Option J) (View J)

module _ {J : Type 0} where
  -- the seat holds the board i
  abbrev pub Holds : List (View J) → ℕ → ℕ → Type 0
  Holds views i seat =
      (v : View J) × (job : J) × (get_elem? views seat ≡ some v) × (v.held ≡ Some job) × (v.board ≡ i)

  module _ (left : J → ℕ) (AfterTurns : J → ℕ → J → Type 0) where
    -- in the cell of board i lies its job after r turns
    abbrev pub Lies : Homes J → J → ℕ → ℕ → Type 0
    Lies homes start i r = (job : J) × (get_elem? homes i ≡ some (some (Some job))) × AfterTurns start r job

    -- a board is out or at home only with slots left, and paid up only without
    abbrev pub InPlace : Homes J → List (View J) → J → ℕ → ℕ → Whereabouts → Type 0
    InPlace homes views start i r home = (4096 * r < left start) × Lies homes start i r
    InPlace homes views start i r (out seat) = (4096 * r < left start) × Holds views i seat
    InPlace homes views start i r done = (left start ≤ 4096 * r) × Lies homes start i r

    -- what holds of board i
    pub record BoardRule (words : List ℕ) (homes : Homes J) (views : List (View J)) (start : J) (i : ℕ)
        (c : Tally) : Type 0 where
      pub shows : slice_index_or words (i + 1) 0 ≡ word_of c.0 c.1
      pub stands : InPlace homes views start i c.0 c.1
      pub fits : left start < 18446744073709551616

    -- a seat that holds a board: the board is out with it, and the job as claimed is that of the turns reported
    abbrev pub Claimed : List J → (ℕ → Tally) → ℕ → View J → J → Type 0
    Claimed starts tallies seat v job =
        (tallies v.board ≡ (v.found / 4, out seat)) × (v.found % 4 ≡ 0) ×
        ((start : J) × (get_elem? starts v.board ≡ some start) × AfterTurns start (v.found / 4) job)

    -- what holds of a seat; one that was joined to another is left out
    pub record ViewRule (starts : List J) (tallies : ℕ → Tally) (seat : ℕ) (v : View J) : Type 0 where
      pub same : v.spent ≡ false → v.starts ≡ starts
      pub claimed : (job : J) → v.held ≡ Some job → Claimed starts tallies seat v job

    pub record Rule (starts : List J) (s : Table J) : Type 0 where
      pub tallies : ℕ → Tally
      pub wide : length s.words ≡ length starts + 1
      pub roomy : length s.homes ≡ length starts
      pub zero_is : slice_index_or s.words 0 0 ≡ 0
      pub each_board : (i : ℕ) (start : J) → get_elem? starts i ≡ some start →
          BoardRule s.words s.homes s.views start i (tallies i)
      pub each_view : (seat : ℕ) (v : View J) → get_elem? s.views seat ≡ some v → ViewRule starts tallies seat v
