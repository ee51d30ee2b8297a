-- Words that were met before, one more at a time.
use Rattle.std.proofs.Common.{◌≡◌, ◌||◌, List, ℕ, Bool, true, false, cond, refl, Option, Some, is_some}
use Rattle.std.specs.Map.{update}
use Rattle.std.specs.Str.{bytes_eq}

pub some_after :
    {X : Type 0} (word : List ℕ) (before : List ℕ → Option X) (x : X) (q : List ℕ) →
    is_some (update bytes_eq before word (Some x) q) ≡ (bytes_eq word q || is_some (before q))
some_after word before x q = by_word (bytes_eq word q)
  where
    by_word : (b : Bool) → is_some (cond b (Some x) (before q)) ≡ (b || is_some (before q))
    by_word true = refl
    by_word false = refl
