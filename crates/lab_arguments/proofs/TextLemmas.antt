-- The texts of numbers and times.
use Rattle.std.proofs.Common.{◌≡◌, ◌∙◌, ◌<◌, ◌≤◌, ◌^◌, ◌==◌, ◌&&◌, ℕ, Bool, true, false, not, length, [], ◌∷◌}
use Rattle.std.proofs.Common.{ap, arith, ◌+◌, ◌*◌}
use Rattle.std.proofs.Common.{Option, Some, None, IfOk, Result, Ok, Err, refl, sym, nat_le, nat_lt, cond, ⊎_elim}
use Rattle.std.specs.Prelude.{is_some, option_and_then}
use Rattle.std.specs.Char.{is_ascii_digit}
use Rattle.std.specs.List.{list_all, position_or_len, before_first, after_first}
use Rattle.std.specs.Option.{option_map}
use Rattle.std.specs.Str.Parse.{ParsesUnsigned, digits_value}
use Rattle.std.proofs.lemmas.Bool.{and_parts, and_right, cases_lt, cond-false, eqb-true, leb-true, lt-leb}
use Rattle.std.proofs.lemmas.List.Sums.{take_while-cons}
use Rattle.std.proofs.lemmas.Str.Parse.{parse_digits}
use Rattle.lab_num.specs.Time.{clock_of, cut, digits, fraction_of, micros_of, sum_of, time_of, with_cut, within_limit}
use Rattle.lab_num.specs.declared.number.Micros.{Micros}
use Rattle.lab_num.specs.declared.time.TimeFault.{TimeFault}
use Rattle.lab_num.specs.declared.time.TimeFault.TheVariants.{Limit}
use Rattle.lab_num.proofs.DigitLemmas.{decimal_texts}
use Rattle.lab_arguments.specs.declared.request.UsageCause.TheVariants.{Value}
use Rattle.lab_arguments.specs.Grammar.{Text, is_dash}
use Rattle.lab_arguments.specs.Requests.{has_number_form, has_time_form, is_option_text, number_of}

-- ---- numbers

-- what the bits do not hold lies past each end that they hold
pub too_large : {E : Type 0} (e : E) (bits : ℕ) (text : Text) (least most : ℕ) → has_number_form text ≡ true
    → most < 2 ^ bits → ParsesUnsigned bits 10 text (Err e) → Err Value ≡ number_of least most text
too_large e bits text least most form fits parsed =
    let parts = and_parts _ (list_all is_ascii_digit text) form in
    let some : 1 ≤ length text = leb-true _ _ (and_parts _ _ parts.0).0 in
    let fails = parse_digits decimal_texts bits text (Err e) parsed parts.1 in
    let large : 2 ^ bits ≤ digits_value 10 text =
    ⊎_elim (λ below. absurd (fails (some, below))) (λ past. past) (cases_lt (digits_value 10 text) (2 ^ bits)) in
    let past : nat_le (digits_value 10 text) most ≡ false = lt-leb (digits_value 10 text) most (omega arith) in
    sym (cond-false (nat_le least (digits_value 10 text) && nat_le (digits_value 10 text) most) _ _
    (and_right (nat_le least (digits_value 10 text)) _ past))

-- ---- no text of a form begins with `-`

no_digits : (most : ℕ) (rest : Text) → digits most (45 ∷ rest) ≡ None
no_digits most rest =
    cond-false (nat_le 1 (length (45 ∷ rest)) && nat_le (length (45 ∷ rest)) most && list_all is_ascii_digit
    (45 ∷ rest))
    _ _ (and_right (nat_le 1 (length (45 ∷ rest)) && nat_le (length (45 ∷ rest)) most) _ refl)

no_sum : (hours : Text) → digits 4 hours ≡ None → (o : Option (Text × Text))
    → with_cut o None (λ m s. sum_of hours m s) ≡ None
no_sum hours none None = refl
no_sum hours none (Some x) = rw none refl

no_clock : (rest : Text) → clock_of (45 ∷ rest) ≡ None
no_clock rest = go (nat_lt (position_or_len (λ b. b == 58) (45 ∷ rest)) (length (45 ∷ rest)))
  where
    no_hours : digits 4 (before_first (λ b. b == 58) (45 ∷ rest)) ≡ None
    no_hours =
        ap (digits 4) (take_while-cons (λ b. not (b == 58)) 45 rest)
        ∙ no_digits 4 (before_first (λ b. b == 58) rest)

    go : (b : Bool) → with_cut
        (cond b (Some (before_first (λ b. b == 58) (45 ∷ rest), after_first (λ b. b == 58) (45 ∷ rest))) None)
        (digits 10 (45 ∷ rest)) (λ h more. with_cut (cut 58 more) None (λ m s. sum_of h m s)) ≡ None
    go true =
        no_sum (before_first (λ b. b == 58) (45 ∷ rest)) no_hours
        (cut 58 (after_first (λ b. b == 58) (45 ∷ rest)))
    go false = no_digits 10 rest

-- a time with this fraction, where its whole seconds are these
abbrev with_fraction : Text → Option ℕ → Option ℕ
with_fraction fraction whole =
    option_and_then
    (λ seconds. option_and_then (λ micros. Some (seconds * 1000000 + micros)) (fraction_of fraction))
    whole

no_time : (rest : Text) → micros_of (45 ∷ rest) ≡ None
no_time rest = go (nat_lt (position_or_len (λ b. b == 46) (45 ∷ rest)) (length (45 ∷ rest)))
  where
    go : (b : Bool) → with_cut
        (cond b (Some (before_first (λ b. b == 46) (45 ∷ rest), after_first (λ b. b == 46) (45 ∷ rest))) None)
        (option_map (λ seconds. seconds * 1000000) (clock_of (45 ∷ rest)))
        (λ clock fraction. with_fraction fraction (clock_of clock))
        ≡ None
    go true =
        ap (with_fraction (after_first (λ b. b == 46) (45 ∷ rest)))
        (ap clock_of (take_while-cons (λ b. not (b == 46)) 45 rest) ∙ no_clock (before_first (λ b. b == 46) rest))
    go false = ap (option_map (λ seconds. seconds * 1000000)) (no_clock rest)

-- texts of this form are not empty and do not begin with `-`
abbrev AreTexts : (Text → Bool) → Type 0
AreTexts has_form = (has_form [] ≡ false) × ((rest : Text) → has_form (45 ∷ rest) ≡ false)

numbers : AreTexts has_number_form
numbers = (refl, λ rest. and_right (nat_le 1 (length (45 ∷ rest)) && nat_le (length (45 ∷ rest)) 20) _ refl)

times : AreTexts has_time_form
times = (refl, λ rest. ap is_some (no_time rest))

-- so the text of an option that has the form is one that an option may have
text_of_option : (has_form : Text → Bool) → AreTexts has_form → (text : Text)
    → has_form text ≡ (is_option_text text && has_form text)
text_of_option has_form are [] = are.0
text_of_option has_form are (b ∷ rest) = go (is_dash b) refl
  where
    go : (t : Bool) → is_dash b ≡ t → has_form (b ∷ rest) ≡ (not t && has_form (b ∷ rest))
    go false other = refl
    go true same = ap (λ (c : ℕ). has_form (c ∷ rest)) (eqb-true b 45 same) ∙ are.1 rest

pub option_number : (text : Text) → has_number_form text ≡ (is_option_text text && has_number_form text)
option_number = text_of_option has_number_form numbers

pub option_time : (text : Text) → has_time_form text ≡ (is_option_text text && has_time_form text)
option_time = text_of_option has_time_form times

pub number_of_option : (text : Text) → (is_option_text text && has_number_form text) ≡ true
    → has_number_form text ≡ true
number_of_option text both = (and_parts _ _ both).1

-- ---- a time is at most ten thousand seconds

abbrev limited : Bool → ℕ → Result Micros TimeFault
limited b n = cond b (Ok (record { 0 = n })) (Err Limit)

pub time_is_short : (text : Text) → IfOk (time_of text) (λ time. time.0 ≤ 10 ^ 10)
time_is_short text = within (micros_of text)
  where
    go : (n : ℕ) (b : Bool) → nat_le n (10 ^ 10) ≡ b → IfOk (limited b n) (λ time. time.0 ≤ 10 ^ 10)
    go n true short = leb-true n (10 ^ 10) short
    go n false long = tt

    within : (o : Option ℕ) → IfOk (within_limit o) (λ time. time.0 ≤ 10 ^ 10)
    within None = tt
    within (Some n) = go n (nat_le n (10 ^ 10)) refl
