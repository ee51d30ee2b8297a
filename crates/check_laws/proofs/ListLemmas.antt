-- Places in lists of boards.
use Rattle.std.proofs.Common.{◌≡◌, ◌∷◌, ℕ, zero, suc, Bool, List, [], map, refl, ap}
use Rattle.std.specs.List.{position}
use Rattle.std.specs.List as list
use Rattle.std.proofs.lemmas.List.{length-map}
use Rattle.lab_num.specs.Change.{change_at}

module _ {X Y : Type 0} (f : X → Y) where
  module _ (p : Y → Bool) (q : X → Bool) (is : (x : X) → p (f x) ≡ q x) where
    first_same : (xs : List X) → list.position_or_len p (map f xs) ≡ list.position_or_len q xs
    first_same [] = refl
    first_same (x ∷ xs) = rw (is x, first_same xs) refl

    pub position_same : (xs : List X) → position p (map f xs) ≡ position q xs
    position_same xs = rw (first_same xs, length-map xs f) refl

  -- a change of one item is the change of what is seen of it
  pub change_seen : (g : X → X) (h : Y → Y) → ((x : X) → f (g x) ≡ h (f x)) → (xs : List X) (n : ℕ) →
      map f (change_at xs n g) ≡ change_at (map f xs) n h
  change_seen g h seen [] n = refl
  change_seen g h seen (x ∷ xs) zero = ap (λ first. first ∷ map f xs) (seen x)
  change_seen g h seen (x ∷ xs) (suc n) = ap (λ rest. f x ∷ rest) (change_seen g h seen xs n)
