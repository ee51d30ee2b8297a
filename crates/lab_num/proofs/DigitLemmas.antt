-- What a text of decimal digits says, and how large that can be.
use Rattle.std.proofs.Common.{◌≡◌, ℕ, ◌<◌, ◌≤◌, ◌^◌, Bool, true, false, cond, List, length, Some, None, Result, IfSome}
use Rattle.std.proofs.Common.{refl, arith, rules}
use Rattle.std.specs.Char.{is_ascii_digit}
use Rattle.std.specs.List.{list_all}
use Rattle.std.specs.Result.{result_ok}
use Rattle.std.specs.Str.Parse.{digits_value, ParsesUnsigned}
use Rattle.std.proofs.lemmas.Bool.{and_parts, leb-true}
use Rattle.std.proofs.lemmas.Bool.Decides.{nat_tests}
use Rattle.std.proofs.lemmas.Str.Parse.{IsNumeralModel, numerals_by_value, digits_value_short, parse_gives}
use Rattle.lab_num.specs.Time.{are_digits, digits}

-- `list_all` tells the texts of digits
pub decimal_texts : IsNumeralModel (λ ds. list_all is_ascii_digit ds ≡ true) (digits_value 10)
decimal_texts = numerals_by_value _ (search rules)

are_digits-from :
    (most : ℕ) (text : List ℕ) →
    0 < length text → length text ≤ most → list_all is_ascii_digit text ≡ true → are_digits most text ≡ true
are_digits-from most text some fits all = grind (arith, nat_tests)

-- what holds of the one answer
if_some : {X : Type 0} (P : X → Type 0) (b : Bool) (x : X) → (b ≡ true → P x) → IfSome (cond b (Some x) None) P
if_some P true x holds = holds refl
if_some P false x holds = tt

-- digits have a value below 10 to their number
pub digits_fit : (most : ℕ) (text : List ℕ) → IfSome (digits most text) (λ n. n < 10 ^ most)
digits_fit most text =
    if_some (λ n. n < 10 ^ most) (are_digits most text) (digits_value 10 text)
    (λ yes.
    let all = and_parts _ _ yes in
    let fits = leb-true _ _ (and_parts _ _ all.0).1 in
    digits_value_short decimal_texts text most all.1 fits)

-- what `parse` gives for digits, as an option
pub digits_parse :
    {E : Type 0} (most : ℕ) (text : List ℕ) (r : Result ℕ E) → ParsesUnsigned 64 10 text r → most ≤ 19 →
    0 < length text → length text ≤ most → list_all is_ascii_digit text ≡ true → result_ok r ≡ digits most text
digits_parse most text r parsed small some fits all =
    let below : digits_value 10 text < 10 ^ 19 = digits_value_short decimal_texts text 19 all (omega arith) in
    rw (parse_gives decimal_texts 64 text r parsed all some (omega arith), are_digits-from most text some fits all) refl
