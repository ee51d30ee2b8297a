-- Rows of a fixed number of places.
use Rattle.std.proofs.Common.{◌≡◌, ℕ, ◌+◌, ◌-◌, ◌<◌, List, drop, set, replicate, arith, refl}
use Rattle.std.proofs.lemmas.List.{drop-set-lt, drop-replicate, drop-drop}

-- one place less that is not in use
pub drop-set_next :
    {T : Type 0} (xs : List T) (i n : ℕ) (y unused : T) →
    i < n → drop i xs ≡ replicate (n - i) unused → drop (i + 1) (set xs i y) ≡ replicate (n - (i + 1)) unused
drop-set_next {T} xs i n y unused below rest =
    let one : (n - i) - 1 ≡ n - (i + 1) = omega arith in
    let shorter = drop-replicate {X = T} 1 (n - i) unused in
    rw (drop-set-lt (i + 1) xs i y (omega arith), ← drop-drop 1 i xs, rest, shorter, one) refl
