-- What std reads of a text of digits.
use Rattle.std.proofs.Common.{◌≡◌, ℕ, ◌^◌, ◌<◌, ◌≤◌, Bool, true, false, ◌==◌, cond, ltb, refl, ap, List, [], ◌∷◌}
use Rattle.std.proofs.Common.{length, get_or, Some, None, Result, Ok, Err, arith}
use Rattle.std.specs.List.{list_all}
use Rattle.std.specs.Result.{result_ok, OkIff}
use Rattle.std.specs.Char.{digit_value, is_ascii_digit, is_ascii_hexdigit}
use Rattle.std.specs.Str.Parse.{digits_value, AllDigits, IsNumeral, ParsesUnsigned}
use Rattle.std.proofs.lemmas.Str.Parse.{without_leading_plus_none}
use Rattle.std.proofs.lemmas.Bool.{and_parts, lt-ltb, le-ltb}
use Rattle.std.proofs.lemmas.Bool.Decides.{nat_tests}
use Rattle.lab_num.specs.Numeral.{numeral}

-- bytes that pass a test of digits are digits
pub all_digits :
    (test : ℕ → Bool) (radix : ℕ) → ((b : ℕ) → test b ≡ true → digit_value b < radix) →
    (text : List ℕ) → list_all test text ≡ true → AllDigits radix text
all_digits test radix digit [] all = tt
all_digits test radix digit (b ∷ bs) all =
    let both = and_parts (test b) (list_all test bs) all in (digit b both.0, all_digits test radix digit bs both.1)

pub first_passes :
    (test : ℕ → Bool) (text : List ℕ) → list_all test text ≡ true → 0 < length text →
    test (get_or text 0 0) ≡ true
first_passes test [] all some = absurd (omega arith)
first_passes test (b ∷ bs) all some = (and_parts (test b) (list_all test bs) all).0

not_below : (v : ℕ) → (v < 2 ^ 32 → ⊥) → 2 ^ 32 ≤ v
not_below v above = omega arith

-- the value where it fits, and nothing where it does not
fits_or_not :
    {E : Type 0} (r : Result ℕ E) (P : Type 0) (v : ℕ) → P → OkIff r (P × (v < 2 ^ 32)) v →
    result_ok r ≡ cond (ltb v (2 ^ 32)) (Some v) None
fits_or_not (Ok x) P v holds reads = rw (lt-ltb v (2 ^ 32) reads.0.1, reads.1) refl
fits_or_not (Err e) P v holds reads = rw (le-ltb v (2 ^ 32) (not_below v (λ below. reads (holds, below)))) refl

pub numeral_parses :
    {E : Type 0} (test : ℕ → Bool) (radix : ℕ) (text : List ℕ) (r : Result ℕ E) →
    ((b : ℕ) → test b ≡ true → digit_value b < radix) → radix ≤ 36 →
    ParsesUnsigned 32 radix text r → (length text == 0) ≡ false → list_all test text ≡ true →
    result_ok r ≡ numeral test radix text
numeral_parses test radix text r digit few parsed some all =
    let positive : 0 < length text = grind (arith, nat_tests) in
    let first = digit _ (first_passes test text all positive) in
    let plain = without_leading_plus_none text (λ plus. absurd (omega (arith, first, ap digit_value plus))) in
    let holds : IsNumeral radix text = (positive, all_digits test radix digit text all) in
    rw (some, all) (fits_or_not r (IsNumeral radix text) (digits_value radix text) holds (rw plain at parsed))

pub decimal_digit : (b : ℕ) → is_ascii_digit b ≡ true → digit_value b < 10
decimal_digit b digit = grind (arith, nat_tests)

pub hexadecimal_digit : (b : ℕ) → is_ascii_hexdigit b ≡ true → digit_value b < 16
hexadecimal_digit b digit = grind (arith, nat_tests)
