-- The acceptance filter by bits, and by bytes.
use Rattle.std.proofs.Common.{◌≡◌, ◌∙◌, ℕ, zero, suc, ◌+◌, ◌-◌, ◌%◌, ◌^◌, ◌<◌, min, Bool, true, false, ◌&&◌, ◌||◌, ◌==◌}
use Rattle.std.proofs.Common.{nat_eq, List, [], ◌∷◌, bit_and, w8, refl, sym, ap, subst, arith, lit<, eqb-true}
use Rattle.std.specs.Int.{bit_at, bit_not}
use Rattle.std.specs.Int.RustNames.{bit_xor}
use Rattle.std.specs.List.{list_all}
use Rattle.std.proofs.lemmas.Nat.Bits.{bit_at_and, bit_at_xor, bit_at_not, bit_at-lt, bit_at-zero, same_from_bits_below}
use Rattle.std.proofs.lemmas.List.Sums.{AllPass-from_list_all}
use Rattle.std.proofs.lemmas.Nat.{and_le_r}
use Rattle.dev_core.specs.Bit.{is_set}

-- the places of the bits of a byte
abbrev places : List ℕ
places = 0 ∷ 1 ∷ 2 ∷ 3 ∷ 4 ∷ 5 ∷ 6 ∷ 7 ∷ []

-- two bits agree or are masked, where they don't differ without a mask
agree :
    (id code mask : ℕ) → id < 2 → code < 2 → mask < 2 →
    (mask == 1 || id == code) ≡ (min ((id + code) % 2) (1 - mask) == 0)
agree zero zero zero a b c = refl
agree zero zero (suc zero) a b c = refl
agree zero (suc zero) zero a b c = refl
agree zero (suc zero) (suc zero) a b c = refl
agree (suc zero) zero zero a b c = refl
agree (suc zero) zero (suc zero) a b c = refl
agree (suc zero) (suc zero) zero a b c = refl
agree (suc zero) (suc zero) (suc zero) a b c = refl
agree (suc (suc id)) code mask a b c = absurd (omega (arith, a))
agree id (suc (suc code)) mask a b c = absurd (omega (arith, b))
agree id code (suc (suc mask)) a b c = absurd (omega (arith, c))

-- the bits in which identifier and code differ, and which are not masked
abbrev apart : ℕ → ℕ → ℕ → ℕ
apart id code mask = bit_and (bit_xor id code) (bit_not w8 mask)

agree_at :
    (id code mask n : ℕ) → mask < 2 ^ 8 → n < 8 →
    (is_set mask n || bit_at id n == bit_at code n) ≡ (bit_at (apart id code mask) n == 0)
agree_at id code mask n fits below =
    let bits : bit_at (apart id code mask) n ≡ min ((bit_at id n + bit_at code n) % 2) (1 - bit_at mask n) =
    bit_at_and (bit_xor id code) (bit_not w8 mask) n
    ∙ (λ i. min (bit_at_xor id code n i) (bit_at_not w8 mask n fits below i)) in
    agree (bit_at id n) (bit_at code n) (bit_at mask n) (bit_at-lt id n) (bit_at-lt code n) (bit_at-lt mask n)
    ∙ sym (ap (λ b. b == 0) bits)

-- one test is the other where each implies the other
one_test : (a b : Bool) → (a ≡ true → b ≡ true) → (b ≡ true → a ≡ true) → a ≡ b
one_test true true there back = refl
one_test true false there back = sym (there refl)
one_test false true there back = back refl
one_test false false there back = refl

-- what holds of all places holds of each
each_place : (p : ℕ → Bool) (n : ℕ) → n < 8 → list_all p places ≡ true → p n ≡ true
each_place p zero below all = AllPass-from_list_all p places all 0 0 below
each_place p (suc zero) below all = AllPass-from_list_all p places all 1 0 below
each_place p (suc (suc zero)) below all = AllPass-from_list_all p places all 2 0 below
each_place p (suc (suc (suc zero))) below all = AllPass-from_list_all p places all 3 0 below
each_place p (suc (suc (suc (suc zero)))) below all = AllPass-from_list_all p places all 4 0 below
each_place p (suc (suc (suc (suc (suc zero))))) below all = AllPass-from_list_all p places all 5 0 below
each_place p (suc (suc (suc (suc (suc (suc zero)))))) below all = AllPass-from_list_all p places all 6 0 below
each_place p (suc (suc (suc (suc (suc (suc (suc zero))))))) below all = AllPass-from_list_all p places all 7 0 below
each_place p (suc (suc (suc (suc (suc (suc (suc (suc n)))))))) below all = absurd (omega (arith, below))

-- a byte is 0 where all its bits are
all_zero : (x : ℕ) → x < 2 ^ 8 → list_all (λ n. bit_at x n == 0) places ≡ (x == 0)
all_zero x fits = one_test _ _ there back
  where
    there : list_all (λ n. bit_at x n == 0) places ≡ true → (x == 0) ≡ true
    there all =
        let bits : (n : ℕ) → n < 8 → bit_at x n ≡ bit_at 0 n =
        λ n below. eqb-true (bit_at x n) 0 (each_place (λ k. bit_at x k == 0) n below all) ∙ sym (bit_at-zero n) in
        ap (λ y. y == 0) (same_from_bits_below 8 x 0 fits (omega arith) bits)

    back : (x == 0) ≡ true → list_all (λ n. bit_at x n == 0) places ≡ true
    back is = subst (λ (y : ℕ). list_all (λ n. bit_at y n == 0) places ≡ true) (sym (eqb-true x 0 is)) refl

pub accepted_by_bits :
    (id code mask : ℕ) → id < 2 ^ 8 → code < 2 ^ 8 → mask < 2 ^ 8 →
    nat_eq (apart id code mask) 0 ≡ list_all (λ n. is_set mask n || bit_at id n == bit_at code n) places
accepted_by_bits id code mask small low fits =
    let e = λ (n : ℕ) (below : n < 8). agree_at id code mask n fits below in
    sym
    ((λ i.
    e 0 (lit< tt) i && (e 1 (lit< tt) i && (e 2 (lit< tt) i && (e 3 (lit< tt) i && (e 4 (lit< tt) i
    && (e 5 (lit< tt) i && (e 6 (lit< tt) i && (e 7 (lit< tt) i && true))))))))
    ∙ all_zero (apart id code mask) (omega (arith, and_le_r (bit_xor id code) (bit_not w8 mask))))
