-- A list whose elements that are low come first, then at most one that is own, then those that are high.
use Rattle.std.proofs.Common.{◌≡◌, ◌∙◌, ℕ, zero, suc, ◌+◌, ◌<◌, Bool, true, false, Some, None, unwrap_or, List, [], ◌∷◌}
use Rattle.std.proofs.Common.{◌++◌, length, get_or, take, drop, filter, find, refl, ap, inl, inr, arith}
use Rattle.std.specs.Prelude.{⊤}
use Rattle.std.specs.List.{list_all, prefix_len}
use Rattle.std.proofs.lemmas.List.Folds.{list_all-append}
use Rattle.std.proofs.lemmas.Bool.{cases_Bool, and_parts, and_from}

-- an element is low, own or high, and no two of them
pub record Apart {X : Type 0} (low own high : X → Bool) : Type 0 where
  pub low_own : (x : X) → low x ≡ true → own x ≡ false
  pub low_high : (x : X) → low x ≡ true → high x ≡ false
  pub own_high : (x : X) → own x ≡ true → high x ≡ false
  pub high_low : (x : X) → high x ≡ true → low x ≡ false
  pub high_own : (x : X) → high x ≡ true → own x ≡ false
  pub one : (x : X) → low x ≡ false → own x ≡ false → high x ≡ true

-- after an element that is not low all are high
abbrev pub Parted : {X : Type 0} → (X → Bool) → (X → Bool) → List X → Type 0
Parted low high [] = ⊤
Parted low high (x ∷ xs) = (low x ≡ false → list_all high xs ≡ true) × Parted low high xs

module _ {X : Type 0} (low own high : X → Bool) (apart : Apart low own high) where
  -- where all are high
  pub record AllHigh (xs : List X) : Type 0 where
    pub none : filter low xs ≡ []
    pub unowned : find own xs ≡ None
    pub all : filter high xs ≡ xs

  all_high : (xs : List X) → list_all high xs ≡ true → AllHigh xs
  all_high [] all = record { none = refl; unowned = refl; all = refl }
  all_high (x ∷ xs) all =
      let parts = and_parts (high x) (list_all high xs) all in
      let later = all_high xs parts.1 in
      record {
        none = rw (apart.high_low x parts.0) later.none;
        unowned = rw (apart.high_own x parts.0) later.unowned;
        all = rw parts.0 (ap (λ ys. x ∷ ys) later.all);
      }

  not_low : (x : X) (xs : List X) → prefix_len low (x ∷ xs) ≡ 0 → low x ≡ false
  not_low x xs is =
      elim (cases_Bool (low x)) [
        | inl low_is ↦ absurd (let e : 1 + prefix_len low xs ≡ 0 = rw low_is at is in omega arith)
        | inr low_not ↦ low_not
      ]

  is_low : (x : X) (xs : List X) (n : ℕ) → prefix_len low (x ∷ xs) ≡ suc n → (low x ≡ true) × (prefix_len low xs ≡ n)
  is_low x xs n is =
      elim (cases_Bool (low x)) [
        | inl low_is ↦ (low_is, let e : 1 + prefix_len low xs ≡ suc n = rw low_is at is in omega arith)
        | inr low_not ↦ absurd (let e : 0 ≡ suc n = rw low_not at is in omega arith)
      ]

  -- where the element after the n low ones is own: it is the one that is found, and without it the others are left
  pub record Found (xs : List X) (d : X) (n : ℕ) : Type 0 where
    pub first : find own xs ≡ Some (get_or xs n d)
    pub others : filter low xs ++ filter high xs ≡ take n xs ++ drop (suc n) xs

  found_later : (x : X) (xs : List X) (d : X) (n : ℕ) → low x ≡ true → Found xs d n → Found (x ∷ xs) d (suc n)
  found_later x xs d n is later = record {
    first = rw (apart.low_own x is) later.first;
    others = rw (is, apart.low_high x is) (ap (λ ys. x ∷ ys) later.others);
  }

  found_here : (x : X) (xs : List X) (d : X) → low x ≡ false → own x ≡ true → AllHigh xs → Found (x ∷ xs) d 0
  found_here x xs d is here later = record {
    first = rw here refl;
    others = rw (is, apart.own_high x here, later.none) later.all;
  }

  pub found :
      (xs : List X) (d : X) (n : ℕ) → prefix_len low xs ≡ n → Parted low high xs → n < length xs →
      own (get_or xs n d) ≡ true → Found xs d n
  found [] d n is parted within here = absurd (omega arith)
  found (x ∷ xs) d zero is parted within here =
      let none_low = not_low x xs is in found_here x xs d none_low here (all_high xs (parted.0 none_low))
  found (x ∷ xs) d (suc n) is parted within here =
      let more = is_low x xs n is in
      found_later x xs d n more.0 (found xs d n more.1 parted.1 (omega arith) here)

  -- where none is own
  pub record Unfound (xs : List X) : Type 0 where
    pub first : find own xs ≡ None
    pub others : filter low xs ++ filter high xs ≡ xs

  pub unfound :
      (xs : List X) (n : ℕ) → prefix_len low xs ≡ n → Parted low high xs →
      (n < length xs → (d : X) → own (get_or xs n d) ≡ false) → Unfound xs
  unfound [] n is parted here = record { first = refl; others = refl }
  unfound (x ∷ xs) zero is parted here =
      let none_low = not_low x xs is in
      let not_own : own x ≡ false = here (omega arith) x in
      let later = all_high xs (parted.0 none_low) in
      record {
        first = rw not_own later.unowned;
        others = rw (none_low, apart.one x none_low not_own, later.none) (ap (λ ys. x ∷ ys) later.all);
      }
  unfound (x ∷ xs) (suc n) is parted here =
      let more = is_low x xs n is in
      let later = unfound xs n more.1 parted.1 (λ within d. here (omega arith) d) in
      record {
        first = rw (apart.low_own x more.0) later.first;
        others = rw (more.0, apart.low_high x more.0) (ap (λ ys. x ∷ ys) later.others);
      }

  -- the low ones are as many as come first
  pub low_count : (xs : List X) → Parted low high xs → prefix_len low xs ≡ length (filter low xs)
  low_count [] parted = refl
  low_count (x ∷ xs) parted =
      elim (cases_Bool (low x)) [
        | inl is ↦ rw is (omega (arith, low_count xs parted.1))
        | inr is ↦ rw (is, (all_high xs (parted.0 is)).none) refl
      ]

module _ {X : Type 0} (p q : X → Bool) where
  -- a filter keeps what holds of all
  pub list_all-filter : (xs : List X) → list_all p xs ≡ true → list_all p (filter q xs) ≡ true
  list_all-filter [] all = refl
  list_all-filter (x ∷ xs) all =
      let parts = and_parts (p x) (list_all p xs) all in
      elim (cases_Bool (q x)) [
        | inl is ↦ rw is (and_from (p x) (list_all p (filter q xs)) parts.0 (list_all-filter xs parts.1))
        | inr is ↦ rw is (list_all-filter xs parts.1)
      ]

  -- what follows from a test of each follows for all
  pub list_all-weaker :
      ((x : X) → p x ≡ true → q x ≡ true) → (xs : List X) → list_all p xs ≡ true → list_all q xs ≡ true
  list_all-weaker follows [] all = refl
  list_all-weaker follows (x ∷ xs) all =
      let parts = and_parts (p x) (list_all p xs) all in
      and_from (q x) (list_all q xs) (follows x parts.0) (list_all-weaker follows xs parts.1)

  -- what holds of all and of the default holds of the first that passes
  pub find_keeps :
      (xs : List X) (d : X) → p d ≡ true → list_all p xs ≡ true → p (unwrap_or (find q xs) d) ≡ true
  find_keeps [] d here all = here
  find_keeps (x ∷ xs) d here all =
      let parts = and_parts (p x) (list_all p xs) all in
      elim (cases_Bool (q x)) [
        | inl is ↦ rw is parts.0
        | inr is ↦ rw is (find_keeps xs d here parts.1)
      ]

module _ {X : Type 0} (p : X → Bool) where
  -- the kept ones pass
  pub filter_passes : (xs : List X) → list_all p (filter p xs) ≡ true
  filter_passes [] = refl
  filter_passes (x ∷ xs) =
      elim (cases_Bool (p x)) [
        | inl is ↦ rw (is, is) (filter_passes xs)
        | inr is ↦ rw is (filter_passes xs)
      ]

  -- the first that passes does, where the default does
  pub find_passes : (xs : List X) (d : X) → p d ≡ true → p (unwrap_or (find p xs) d) ≡ true
  find_passes [] d here = here
  find_passes (x ∷ xs) d here =
      elim (cases_Bool (p x)) [
        | inl is ↦ rw (is, is) refl
        | inr is ↦ rw is (find_passes xs d here)
      ]

  -- what holds of two lists holds of both together
  pub list_all-both : (xs ys : List X) → list_all p xs ≡ true → list_all p ys ≡ true → list_all p (xs ++ ys) ≡ true
  list_all-both xs ys front back = list_all-append p xs ys ∙ and_from (list_all p xs) (list_all p ys) front back
