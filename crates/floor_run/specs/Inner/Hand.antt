-- What holds of a hand.
use Rattle.std.specs.Prelude.{◌≡◌, ℕ, ◌*◌, ◌^◌, ◌<◌, false, List, [], ◌∷◌, length, Option, Some, None}
use Rattle.floor_run.specs.declared.view.View.{View}

module _ {J : Type 0} where
  -- the cells that a seat has taken: that of the board that it holds, which is empty
  abbrev pub carried : View J → Option J → List (ℕ × Option J)
  carried v None = []
  carried v (Some job) = (v.board, None) ∷ []

  -- the board of a hand, and the number of its reports, are those that its view knows
  pub record HandRule (v : View J) (board reports : ℕ) : Type 0 where
    pub live : v.spent ≡ false
    pub board_is : v.board ≡ board
    pub inside : (job : J) → v.held ≡ Some job → board < length v.starts
    pub reports_is : (job : J) → v.held ≡ Some job → (v.found ≡ 4 * reports) × (reports < 2 ^ 60)
