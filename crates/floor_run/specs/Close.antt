-- What is taken off a bench that is closed.
use Rattle.std.specs.Prelude.{ℕ, ◌+◌, ◌*◌, ◌/◌, ◌%◌, ◌<◌, ◌≤◌, ◌≡◌, ◌⊎◌, List, length, Option, Some, None}
use Rattle.std.specs.Prelude.{slice_index_or}
use mathlib.Core.Option.{some}
use lib.ListN.{get_elem?}

module _ {J : Type 0} (left : J → ℕ) (AfterTurns : J → ℕ → J → Type 0) where
  -- the word is that of a board at home, and pays for this job
  abbrev pub IsHome : J → ℕ → J → Type 0
  IsHome start word job =
      AfterTurns start (word / 4) job ×
      (((word % 4 ≡ 0) × (4096 * (word / 4) < left start)) ⊎ ((word % 4 ≡ 3) × (left start ≤ 4096 * (word / 4))))

  -- nothing where the word says that the board is out, and else the job that the word pays for
  abbrev pub ClosedAs : J → ℕ → Option J → Type 0
  ClosedAs start word None = word % 4 ≡ 1
  ClosedAs start word (Some job) = IsHome start word job

  -- what was taken off: there are words, one for each board behind word 0, that say each place
  abbrev pub Closing : List J → List (Option J) → Type 0
  Closing starts jobs =
      (words : List ℕ) × (length jobs ≡ length starts) ×
      ((i : ℕ) (start : J) → get_elem? starts i ≡ some start →
      (job : Option J) × (get_elem? jobs i ≡ some job) ×
      ClosedAs start (slice_index_or words (i + 1) 0) job)
