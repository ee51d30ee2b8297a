-- What std reads of a text of digits.
use Rattle.std.proofs.Common.{◌≡◌, ℕ, ◌^◌, ◌<◌, ◌≤◌, Bool, true, false, ◌==◌, ◌%◌, refl, sym, ◌∙◌, ap, inl, inr, ◌⊎◌}
use Rattle.std.proofs.Common.{List, [], ◌∷◌, length, min, Option, Some, None, Result, Ok, Err, arith}
use Rattle.std.specs.Prelude.{nat_le, nat_eq, if◌then◌else◌}
use Rattle.std.specs.List.{list_all, starts_with}
use Rattle.std.specs.Result.{result_unwrap_or, OkIff}
use Rattle.std.specs.Char.{digit_value}
use Rattle.std.specs.Str.Parse.{digits_value, IsNumeral, ParsesUnsigned}
use Rattle.std.proofs.lemmas.Str.Parse.{without_leading_plus_none}
use Rattle.std.proofs.lemmas.Bool.{cases_lt, cases_Bool}
use Rattle.std.proofs.lemmas.Bool.Decides.{nat_tests}
use Rattle.rv_asm.specs.Numbers.{numeral, in_field, even_in_field}
use Rattle.rv_asm.specs.Inner.Saturated.{most, saturated, is_digit_of}
use Rattle.rv_asm.specs.declared.numbers.Number.{Number}
use Rattle.std.specs.Option.{option_map}
use Rattle.lab_num.proofs.NumeralLemmas.{all_digits, first_passes}

not_below : (v : ℕ) → (v < 2 ^ 64 → ⊥) → 2 ^ 64 ≤ v
not_below v above = omega arith

-- the value where it fits, and the greatest where it does not
fits_or_most :
    {E : Type 0} (r : Result ℕ E) (P : Type 0) (v : ℕ) → P → OkIff r (P × (v < 2 ^ 64)) v →
    result_unwrap_or r most ≡ min v most
fits_or_most (Ok x) P v holds reads =
    let below : v < 2 ^ 64 = reads.0.1 in
    let same : x ≡ v = reads.1 in
    omega arith
fits_or_most (Err e) P v holds reads =
    let above : 2 ^ 64 ≤ v = not_below v (λ below. reads (holds, below)) in
    omega arith

pub numeral_parses :
    {E : Type 0} (test : ℕ → Bool) (radix : ℕ) (text : List ℕ) (r : Result ℕ E) →
    ((b : ℕ) → test b ≡ true → digit_value b < radix) → radix ≤ 36 →
    ParsesUnsigned 64 radix text r → (length text == 0) ≡ false → list_all test text ≡ true →
    Some (result_unwrap_or r most) ≡ option_map (λ n. min n most) (numeral test radix text)
numeral_parses test radix text r digit few parsed some all =
    let positive : 0 < length text = grind (arith, nat_tests) in
    let first = digit _ (first_passes test text all positive) in
    let plain = without_leading_plus_none text (λ plus. absurd (omega (arith, first, ap digit_value plus))) in
    let holds : IsNumeral radix text = (positive, all_digits test radix digit text all) in
    rw (some, all)
    (ap Some (fits_or_most r (IsNumeral radix text) (digits_value radix text) holds (rw plain at parsed)))

pub is_digit_of-below : (radix : ℕ) → 10 ≤ radix → (b : ℕ) → is_digit_of radix b ≡ true → digit_value b < radix
is_digit_of-below radix least b digit = grind (arith, nat_tests)

-- ---- fields

-- a magnitude above all fields is in none, whether it is told apart or not
in_field-by :
    (negative : Bool) (m least greatest : ℕ) → least < 2 ^ 32 → greatest < 2 ^ 32 →
    in_field least greatest (record { negative = negative; magnitude = min m most }) ≡
    in_field least greatest (record { negative = negative; magnitude = m })
in_field-by negative m least greatest small_least small_greatest =
    elim (cases_lt most m) [
      | inl above ↦
          let same : min m most ≡ most = omega arith in
          rw same (outside negative above)
      | inr told ↦
          let same : min m most ≡ m = omega arith in
          rw same refl
    ]
  where
    outside :
        (negative : Bool) → most < m →
        in_field least greatest (record { negative = negative; magnitude = most }) ≡
        in_field least greatest (record { negative = negative; magnitude = m })
    outside true above =
        let first : nat_le most least ≡ false = grind (arith, nat_tests) in
        let second : nat_le m least ≡ false = grind (arith, nat_tests) in
        rw (first, second) refl
    outside false above =
        let first : nat_le most greatest ≡ false = grind (arith, nat_tests) in
        let second : nat_le m greatest ≡ false = grind (arith, nat_tests) in
        rw (first, second) refl

pub in_field-saturated :
    (least greatest : ℕ) (n : Number) → least < 2 ^ 32 → greatest < 2 ^ 32 →
    in_field least greatest (saturated n) ≡ in_field least greatest n
in_field-saturated least greatest n small_least small_greatest =
    in_field-by n.negative n.magnitude least greatest small_least small_greatest

-- the number in its field, from the number as the code holds it
pub none_in_field :
    (o : Option Number) (least greatest : ℕ) → option_map saturated o ≡ None →
    None ≡ option_map (λ n. in_field least greatest n) o
none_in_field None least greatest is = refl
none_in_field (Some n) least greatest is = cc

pub some_in_field :
    (o : Option Number) (least greatest : ℕ) (x : Number) → least < 2 ^ 32 → greatest < 2 ^ 32 →
    option_map saturated o ≡ Some x → Some (in_field least greatest x) ≡ option_map (λ n. in_field least greatest n) o
some_in_field None least greatest x small_least small_greatest is = cc
some_in_field (Some n) least greatest x small_least small_greatest is =
    let same : saturated n ≡ x = cc in
    rw (← same) (ap Some (in_field-saturated least greatest n small_least small_greatest))

if-none : (b : Bool) (o : Option ℕ) → o ≡ None → (if b then o else None) ≡ None
if-none true o is = is
if-none false o is = refl

-- the same of an even number: one that is not told apart is in no field
pub even_in_field-saturated :
    (least greatest : ℕ) (n : Number) → least < 2 ^ 32 → greatest < 2 ^ 32 →
    even_in_field least greatest (saturated n) ≡ even_in_field least greatest n
even_in_field-saturated least greatest n small_least small_greatest =
    elim (cases_lt most n.magnitude) [
      | inl above ↦
          let same : min n.magnitude most ≡ most = omega arith in
          let nowhere : in_field least greatest n ≡ None =
          sym (in_field-saturated least greatest n small_least small_greatest) ∙
          (rw same (most_outside n.negative)) in
          rw (same, nowhere) (sym (if-none (n.magnitude % 2 == 0) None refl))
      | inr told ↦
          let same : min n.magnitude most ≡ n.magnitude = omega arith in
          rw same refl
    ]
  where
    most_outside :
        (negative : Bool) → in_field least greatest (record { negative = negative; magnitude = most }) ≡ None
    most_outside true =
        let first : nat_le most least ≡ false = grind (arith, nat_tests) in
        rw first refl
    most_outside false =
        let first : nat_le most greatest ≡ false = grind (arith, nat_tests) in
        rw first refl

-- a text that no `-` begins
pub no_sign :
    (text : List ℕ) → ((rest : List ℕ) → text ≡ 45 ∷ rest → ⊥) → starts_with nat_eq text (45 ∷ []) ≡ false
no_sign [] none = refl
no_sign (x ∷ xs) none = by (cases_Bool (x == 45))
  where
    by : (x == 45 ≡ true) ⊎ (x == 45 ≡ false) → starts_with nat_eq (x ∷ xs) (45 ∷ []) ≡ false
    by (inl here) = absurd (none xs (ap (λ y. y ∷ xs) (grind (arith, nat_tests))))
    by (inr other) = grind (arith, nat_tests)

-- a sign before a magnitude as the code holds it
pub none_signed :
    (o : Option ℕ) (negative : Bool) → option_map (λ n. min n most) o ≡ None →
    None ≡ option_map saturated (option_map (λ n. record { negative = negative; magnitude = n }) o)
none_signed None negative is = refl
none_signed (Some n) negative is = cc

pub some_signed :
    (o : Option ℕ) (negative : Bool) (m : ℕ) → option_map (λ n. min n most) o ≡ Some m →
    Some (record { negative = negative; magnitude = m }) ≡
    option_map saturated (option_map (λ n. record { negative = negative; magnitude = n }) o)
some_signed None negative m is = cc
some_signed (Some n) negative m is =
    let same : min n most ≡ m = cc in
    rw same refl

-- a number from 0 on is at most the greatest
pub in_field-most :
    (n : Number) (greatest m : ℕ) → in_field 0 greatest n ≡ Some m → m ≤ greatest
in_field-most n greatest m is = most_by n.negative n.magnitude is
  where
    most_by :
        (negative : Bool) (k : ℕ) →
        in_field 0 greatest (record { negative = negative; magnitude = k }) ≡ Some m → m ≤ greatest
    most_by true k is = grind (arith, nat_tests)
    most_by false k is = grind (arith, nat_tests)
