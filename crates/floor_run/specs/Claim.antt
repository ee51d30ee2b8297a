-- What the answer to a claim says.
use Rattle.std.specs.Prelude.{◌≡◌, ℕ, ◌*◌, ◌/◌, ◌%◌, ◌<◌, ◌⊎◌, List, Some, None}
use mathlib.Core.Option.{some}
use lib.ListN.{get_elem?}
use Rattle.floor_run.specs.declared.view.View.{View}

module _ {J : Type 0} (left : J → ℕ) (AfterTurns : J → ℕ → J → Type 0) where
  -- the board was at home with slots left: the hand holds it now, with its job after the turns that were reported
  abbrev pub IsWon : List J → View J → J → Type 0
  IsWon starts v job =
      (v.held ≡ Some job) × (v.found % 4 ≡ 0) ×
      ((start : J) × (get_elem? starts v.board ≡ some start) × AfterTurns start (v.found / 4) job ×
      (4096 * (v.found / 4) < left start))

-- the board was out, or paid up
abbrev pub IsMissed : {J : Type 0} → View J → Type 0
IsMissed v = (v.held ≡ None) × ((v.found % 4 ≡ 1) ⊎ (v.found % 4 ≡ 3))
