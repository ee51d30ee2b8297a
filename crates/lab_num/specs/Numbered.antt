-- The numbers of what one board makes.
use Rattle.std.specs.Prelude.{◌≡◌, ℕ, ◌+◌, List, [], ◌∷◌}
use Rattle.lab_num.specs.declared.key.Key.{Key}

-- the keys are of this board, and their numbers go up by one from this one on
abbrev pub AreNumbered : ℕ → ℕ → List Key → Type 0
AreNumbered board first [] = Unit {0}
AreNumbered board first (key ∷ keys) =
    (key.board.0 ≡ board) × (key.number.0 ≡ first) × AreNumbered board (first + 1) keys
