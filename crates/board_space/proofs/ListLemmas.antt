-- What holds of the items of lists.
use Rattle.std.proofs.Common.{◌≡◌, ◌∙◌, ℕ, zero, suc, ◌+◌, ◌≤◌, ◌<◌, Bool, true, List, ◌++◌}
use Rattle.std.proofs.Common.{length}
use Rattle.std.proofs.Common.{slice_get, Some, refl, sym, arith, take, inl, inr}
use Rattle.std.specs.Prelude.{Any, slice_index_or, slice_set}
use Rattle.std.specs.List.{list_all, range_with_len}
use Rattle.std.proofs.lemmas.Bool.{cases_eq}
use Rattle.std.proofs.lemmas.List.{get_or-set_same, get_or-set_other, take_all, take-append-le}
use Rattle.std.proofs.lemmas.Option.{slice_get_read}

-- an item of which something holds, and its place
pub any_at :
    {X : Type 0} (P : X → Type 0) (xs : List X) → Any P xs →
    (i : ℕ) × ((x : X) × ((slice_get xs i ≡ Some x) × P x))
any_at P xs found =
    let there = slice_get_read xs (length xs) found.0 found.1 refl found.2 (sym found.3) in
    (found.0, (found.1, (there, found.4)))

-- a range as its first numbers and those after them
pub all_of_parts :
    (p : ℕ → Bool) (a m n : ℕ) → ((i : ℕ) → i < m → p (a + i) ≡ true) →
    list_all p (range_with_len a (m + n)) ≡ list_all p (range_with_len (a + m) n)
all_of_parts p a zero n each =
    let same : a + 0 ≡ a = omega arith in
    let none : zero + n ≡ n = omega arith in
    rw (same, none) refl
all_of_parts p a (suc m) n each =
    let first : p a ≡ true = let same : a + 0 ≡ a = omega arith in rw same at (each 0 (omega arith)) in
    let more : suc m + n ≡ suc (m + n) = omega arith in
    let on : a + suc m ≡ a + 1 + m = omega arith in
    let rest = all_of_parts p (a + 1) m n
    (λ i within. let same : a + suc i ≡ a + 1 + i = omega arith in rw same at (each (suc i) (omega (arith, within)))) in
    rw (more, on, ← rest, first) refl

-- a list that was written as a whole
pub whole :
    {X : Type 0} (n : ℕ) (now rest : List X) → n ≤ length now → length now ≤ n → take n (now ++ rest) ≡ now
whole n now rest most least = take-append-le n now rest most ∙ take_all n now least

-- a list of which the first items are known, after one more was written
pub set_below :
    {X : Type 0} (f : ℕ → X) (xs : List X) (i : ℕ) (x d : X) → i < length xs → x ≡ f i →
    ((k : ℕ) → k < i → slice_index_or xs k d ≡ f k) → (k : ℕ) → k < i + 1 → slice_index_or (slice_set xs i x) k d ≡ f k
set_below f xs i x d within is each k below = elim (cases_eq k i) [
  | inl same ↦ rw same (get_or-set_same xs i x d within ∙ is)
  | inr other ↦ get_or-set_other xs i k x d other ∙ each k (omega (arith, below, other))
]
