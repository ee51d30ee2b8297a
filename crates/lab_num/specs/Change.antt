-- One place of a list is changed.
use Rattle.std.specs.Prelude.{ℕ, zero, suc, List, [], ◌∷◌}

-- a list with one place changed; a place past the end changes nothing
abbrev pub change_at : {A : Type 0} → List A → ℕ → (A → A) → List A
change_at [] i f = []
change_at (x ∷ xs) zero f = f x ∷ xs
change_at (x ∷ xs) (suc i) f = x ∷ change_at xs i f
