-- The search of entries for a name, one entry at a time.
use Rattle.std.proofs.Common.{◌≡◌, ℕ, List, ◌∷◌, Bool, cond, eqb, Some, refl}
use Rattle.std.specs.Ordering.{nat_cmp}
use Rattle.std.specs.Cmp.Lexicographic.{slice_cmp, pointwise, texts_ties}
use Rattle.std.specs.FinMap.{find}

-- the first entry has the name, or the others are searched
pub find_first :
    (name key : List ℕ) (bytes : List ℕ) (rest : List (List ℕ × List ℕ)) (is : Bool) →
    is ≡ pointwise eqb name key →
    find (slice_cmp nat_cmp) name ((key, bytes) ∷ rest)
    ≡ cond is (Some bytes) (find (slice_cmp nat_cmp) name rest)
find_first name key bytes rest is tested = rw (tested, texts_ties name key) refl
