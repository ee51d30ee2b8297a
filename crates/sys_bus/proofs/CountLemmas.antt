-- Counts of the items that pass a test.
use Rattle.std.proofs.Common.{zero, suc, find, slice_get, Option, Some, ◌≡◌, ℕ, ◌+◌, ◌≤◌, Bool, true, false, ◌&&◌, cond}
use Rattle.std.proofs.Common.{if◌then◌else◌, List, [], ◌∷◌, length, filter, count_by, ◌⊎◌, refl, ap, inl, inr, arith}
use Rattle.std.proofs.lemmas.List.Sums.{sum_by-cons}
use Rattle.std.proofs.lemmas.Option.{same_Some}
use Rattle.std.specs.List.{list_all}

-- an item more
pub count_by-cons : {X : Type 0} (p : X → Bool) (x : X) (xs : List X) →
    count_by p (x ∷ xs) ≡ (if p x then 1 else 0) + count_by p xs
count_by-cons p x xs = sum_by-cons (λ y. if p y then 1 else 0) x xs

-- what passes the narrower test is counted by the wider one
pub filtered_within_count : {X : Type 0} (p q : X → Bool) → ((x : X) → p x ≡ true → q x ≡ true) →
    (xs : List X) → length (filter p xs) ≤ count_by q xs
filtered_within_count p q wider [] = omega arith
filtered_within_count p q wider (x ∷ xs) =
    let rest = filtered_within_count p q wider xs in
    let more = count_by-cons q x xs in
    elim (p x) as (λ b. p x ≡ b → length (cond b (x ∷ filter p xs) (filter p xs)) ≤ count_by q (x ∷ xs)) [
      | true ↦ λ is. let one : cond {A = ℕ} (q x) 1 0 ≡ 1 = rw (wider x is) refl in omega (arith, one)
      | false ↦ λ is. omega arith
    ] refl

-- no item passes, or there is one that does, and it meets what all items meet
pub some_passes : {X : Type 0} (p t : X → Bool) (xs : List X) → list_all t xs ≡ true →
    (length (filter p xs) ≡ 0) ⊎ ((x : X) × ((p x ≡ true) × (t x ≡ true)))
some_passes p t [] all = inl refl
some_passes {X} p t (x ∷ xs) all =
    elim (t x) as (λ b. t x ≡ b → (b && list_all t xs) ≡ true →
    (length (filter p (x ∷ xs)) ≡ 0) ⊎ ((y : X) × ((p y ≡ true) × (t y ≡ true)))) [
      | true ↦ λ met others.
          elim (p x) as (λ b. p x ≡ b →
          (length (cond b (x ∷ filter p xs) (filter p xs)) ≡ 0) ⊎ ((y : X) × ((p y ≡ true) × (t y ≡ true)))) [
            | true ↦ λ passes. inr (x, (passes, met))
            | false ↦ λ fails. some_passes p t xs others
          ] refl
      | false ↦ λ unmet never. absurd (cc)
    ] refl all

-- an item that passes is among those that do
passes_some : {X : Type 0} (p : X → Bool) (xs : List X) (i : ℕ) (x : X) →
    slice_get xs i ≡ Some x → p x ≡ true → 1 ≤ length (filter p xs)
passes_some p [] i x there passes = absurd (cc)
passes_some p (y ∷ ys) zero x there passes =
    let one : p y ≡ true = rw (same_Some _ _ there) passes in
    rw one (omega arith)
passes_some p (y ∷ ys) (suc i) x there passes =
    let rest = passes_some p ys i x there passes in
    elim (p y) as (λ b. 1 ≤ length (cond b (y ∷ filter p ys) (filter p ys))) [
      | true ↦ omega arith
      | false ↦ rest
    ]

-- where at most one item passes, two places of such are one
pub one_place : {X : Type 0} (p : X → Bool) (xs : List X) (i j : ℕ) (x y : X) → length (filter p xs) ≤ 1 →
    slice_get xs i ≡ Some x → p x ≡ true → slice_get xs j ≡ Some y → p y ≡ true → i ≡ j
one_place p [] i j x y few at_i passes at_j also = absurd (cc)
one_place p (z ∷ zs) zero zero x y few at_i passes at_j also = refl
one_place p (z ∷ zs) zero (suc j) x y few at_i passes at_j also =
    let more = passes_some p zs j y at_j also in
    let one : p z ≡ true = rw (same_Some _ _ at_i) passes in
    let two = rw one at few in
    absurd (omega (arith, two, more))
one_place p (z ∷ zs) (suc i) zero x y few at_i passes at_j also =
    let more = passes_some p zs i x at_i passes in
    let one : p z ≡ true = rw (same_Some _ _ at_j) also in
    let two = rw one at few in
    absurd (omega (arith, two, more))
one_place p (z ∷ zs) (suc i) (suc j) x y few at_i passes at_j also =
    ap suc (one_place p zs i j x y (fewer (p z) z (filter p zs) few) at_i passes at_j also)
  where
    fewer : {X : Type 0} (b : Bool) (z : X) (zs : List X) → length (cond b (z ∷ zs) zs) ≤ 1 → length zs ≤ 1
    fewer true z zs few = omega arith
    fewer false z zs few = few

-- the one item that passes is the one that is found
pub sole_found : {X : Type 0} (p : X → Bool) (xs : List X) (i : ℕ) (x : X) →
    length (filter p xs) ≤ 1 → slice_get xs i ≡ Some x → p x ≡ true → find p xs ≡ Some x
sole_found p [] i x few there passes = absurd (cc)
sole_found p (y ∷ ys) zero x few there passes =
    let same = same_Some _ _ there in
    let one : p y ≡ true = rw same passes in
    rw (one, same) refl
sole_found {X} p (y ∷ ys) (suc i) x few there passes =
    let more = passes_some p ys i x there passes in
    elim (p y) as (λ b. length (cond b (y ∷ filter p ys) (filter p ys)) ≤ 1 →
    cond {A = Option X} b (Some y) (find p ys) ≡ Some x) [
      | true ↦ λ h. absurd (omega (arith, h, more))
      | false ↦ λ h. sole_found p ys i x h there passes
    ] few
