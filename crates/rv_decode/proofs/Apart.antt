-- Of rows that are apart a word matches at most one.
use Rattle.std.proofs.Common.{◌≡◌, ℕ, ◌≤◌, Bool, true, false, ◌&&◌, List, [], ◌∷◌, refl, inl, inr, arith}
use Rattle.std.specs.Prelude.{bit_and, count_by}
use Rattle.std.specs.List.{list_all}
use Rattle.std.proofs.lemmas.Bool.{and_parts, both_ways, cases_Bool, false_from_ne_true}
use Rattle.std.proofs.lemmas.List.Sums.{sum_by-cons}
use Rattle.std.proofs.lemmas.Nat.Bits.{bit_at_and, same_from_bits}

-- the order of two masks is free
and_swap : (w a b : ℕ) → bit_and (bit_and w a) b ≡ bit_and (bit_and w b) a
and_swap w a b =
    same_from_bits _ _
    (λ i.
    rw (bit_at_and (bit_and w a) b i, bit_at_and w a i, bit_at_and (bit_and w b) a i, bit_at_and w b i)
    (omega arith))

-- what two masks leave of a word agrees where both cover it
pub masks_agree :
    (w a b x y : ℕ) → bit_and w a ≡ x → bit_and w b ≡ y → bit_and x b ≡ bit_and y a
masks_agree w a b x y one other = rw (← one, ← other) (and_swap w a b)

-- each row is apart from those after it
abbrev pub all_apart : {X : Type 0} → (X → X → Bool) → List X → Bool
all_apart is_apart [] = true
all_apart is_apart (r ∷ rs) = list_all (is_apart r) rs && all_apart is_apart rs

module _ {X : Type 0} (is_apart : X → X → Bool) (matches : X → Bool)
    (apart-matched : (r s : X) → matches r ≡ true → matches s ≡ true → is_apart r s ≡ false) where
  -- what is apart from a row that matches does not match
  not_matched : (r s : X) → matches r ≡ true → is_apart r s ≡ true → matches s ≡ false
  not_matched r s p far =
      false_from_ne_true (matches s) (λ q. both_ways (is_apart r s) (apart-matched r s p q) far)

  count_by-apart :
      (r : X) (rs : List X) → matches r ≡ true → list_all (is_apart r) rs ≡ true → count_by matches rs ≡ 0
  count_by-apart r [] p h = refl
  count_by-apart r (s ∷ rs) p h =
      let parts = and_parts (is_apart r s) (list_all (is_apart r) rs) h in
      rw (sum_by-cons, not_matched r s p parts.0) (omega (arith, count_by-apart r rs p parts.1))

  pub at_most_one : (rs : List X) → all_apart is_apart rs ≡ true → count_by matches rs ≤ 1
  at_most_one [] h = omega arith
  at_most_one (r ∷ rs) h =
      let parts = and_parts (list_all (is_apart r) rs) (all_apart is_apart rs) h in
      elim (cases_Bool (matches r)) [
        | inl p ↦ rw (sum_by-cons, p) (omega (arith, count_by-apart r rs p parts.0))
        | inr q ↦ rw (sum_by-cons, q) (omega (arith, at_most_one rs parts.1))
      ]
