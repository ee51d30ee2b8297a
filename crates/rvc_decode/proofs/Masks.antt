-- What the mask of a row leaves of a half-word, field by field.
use Rattle.std.proofs.Common.{◌≡◌, ℕ, ◌+◌, ◌-◌, ◌*◌, ◌/◌, ◌%◌, ◌^◌, ◌<◌, ◌&&◌, ◌==◌, Bool, true, refl, ap, ◌∙◌}
use Rattle.std.proofs.Common.{inl, inr, arith}
use Rattle.std.specs.Prelude.{bit_and, if◌then◌else◌}
use Rattle.std.proofs.Math.Nat.{mod-eq_of_lt}
use Rattle.std.proofs.lemmas.Nat.{and_mask, and_block, and_shr, and_mod}
use Rattle.std.proofs.lemmas.Bool.{eqb-true, and_parts, cases_Bool}
use Rattle.std.proofs.lemmas.Bool.Decides.{nat_tests}
use Rattle.rv_decode.specs.Immediate.{field}

pub field_and :
    (w m low count : ℕ) → field (bit_and w m) low count ≡ bit_and (field w low count) (field m low count)
field_and w m low count = ap (λ v. v % 2 ^ count) (and_shr w m low) ∙ and_mod (w / 2 ^ low) (m / 2 ^ low) count

-- a mask of no bits, of all bits, and of the upper two of five
no_bits : (x : ℕ) → bit_and x 0 ≡ 0
no_bits x = and_mask x 0 ∙ omega arith

pub all_bits : (x count : ℕ) → x < 2 ^ count → bit_and x (2 ^ count - 1) ≡ x
all_bits x count fits = and_mask x count ∙ mod-eq_of_lt fits

upper_bits : (x : ℕ) → x < 2 ^ 5 → bit_and x 24 ≡ x / 8 * 8
upper_bits x fits =
    let split : x ≡ x / 8 * 2 ^ 3 + x % 8 = omega arith in
    let whole = and_block 3 (x / 8) 3 (x % 8) 0 (omega arith) (omega arith) in
    ap (λ v. bit_and v 24) split ∙ whole ∙ rw (no_bits (x % 8), all_bits (x / 8) 2 (omega arith)) (omega arith)

-- whether a mask takes all five bits, the upper two or none, and the bits fit it
abbrev pub is_five : ℕ → ℕ → Bool
is_five mask bits =
    if mask == 0 then bits == 0 else if mask == 31 then true else ((mask == 24) && (bits % 8 == 0))

abbrev same_five : ℕ → ℕ → ℕ → Bool
same_five x mask bits =
    if mask == 0 then true else if mask == 31 then (x == bits) else (x / 8 == bits / 8)

pub five :
    (x mask bits : ℕ) → x < 2 ^ 5 → is_five mask bits ≡ true → (bit_and x mask == bits) ≡ same_five x mask bits
five x mask bits fits regular =
    let none = no_bits x in
    let all : bit_and x 31 ≡ x = all_bits x 5 fits in
    let upper = upper_bits x fits in
    elim (cases_Bool (mask == 0)) [
      | inl is ↦
          let same : mask ≡ 0 = eqb-true mask 0 is in
          rw same (grind (arith, nat_tests))
      | inr not_none ↦
          elim (cases_Bool (mask == 31)) [
            | inl is ↦
                let same : mask ≡ 31 = eqb-true mask 31 is in
                rw (same, all) refl
            | inr not_all ↦
                let parts = and_parts (mask == 24) (bits % 8 == 0) (rw (not_none, not_all) at regular) in
                let same : mask ≡ 24 = eqb-true mask 24 parts.0 in
                let low : bits % 8 ≡ 0 = eqb-true (bits % 8) 0 parts.1 in
                rw (same, upper) (grind (arith, nat_tests))
          ]
    ]

-- whether a mask takes the one bit or not
abbrev pub is_one : ℕ → ℕ → Bool
is_one mask bit = if mask == 0 then bit == 0 else mask == 1

pub one :
    (x mask bit : ℕ) → x < 2 → is_one mask bit ≡ true →
    (bit_and x mask == bit) ≡ (if mask == 0 then true else (x == bit))
one x mask bit fits regular =
    let none = no_bits x in
    let all : bit_and x 1 ≡ x = all_bits x 1 fits in
    elim (cases_Bool (mask == 0)) [
      | inl is ↦
          let same : mask ≡ 0 = eqb-true mask 0 is in
          rw same (grind (arith, nat_tests))
      | inr other ↦
          let same : mask ≡ 1 = eqb-true mask 1 (rw other at regular) in
          rw (same, all) refl
    ]

-- half-words are one where their fields are
pub same_fields :
    (x y : ℕ) → x < 2 ^ 16 → y < 2 ^ 16 →
    (x == y) ≡
    ((field x 0 2 == field y 0 2) && ((field x 13 3 == field y 13 3) && ((field x 12 1 == field y 12 1) &&
    ((field x 7 5 == field y 7 5) && (field x 2 5 == field y 2 5)))))
same_fields x y hx hy = grind (arith, nat_tests)
