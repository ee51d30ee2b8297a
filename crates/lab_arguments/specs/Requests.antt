-- What the words after the program's name ask for.
use Rattle.std.specs.Prelude.{◌≡◌, ℕ, ◌^◌, ◌≤◌, Bool, ◌&&◌, true, false, not, List, [], ◌∷◌, codes, if◌then◌else◌}
use Rattle.std.specs.Prelude.{nat_le, Option, Some, None, is_some, Result, Ok, Err}
use Rattle.std.specs.Str.{bytes_eq}
use Rattle.std.specs.Str.Parse.{digits_value}
use Rattle.lab_num.specs.declared.number.Micros.{Micros}
use Rattle.lab_num.specs.declared.time.TimeFault.{TimeFault}
use Rattle.lab_num.specs.Time.{are_digits, micros_of, time_of}
use Rattle.lab_arguments.specs.declared.request.Request.{Request}
use Rattle.lab_arguments.specs.declared.request.Request.TheVariants.{Run, Check, Gen}
use Rattle.lab_arguments.specs.declared.request.UsageCause.{UsageCause}
use Rattle.lab_arguments.specs.declared.request.UsageCause.TheVariants.{Command, Words, Value}
use Rattle.lab_arguments.specs.declared.request.WordsFault.{WordsFault}
use Rattle.lab_arguments.specs.declared.request.WordsFault.TheVariants.{Usage, Memory}
use Rattle.lab_arguments.specs.Grammar.{Text, is_dash, run_form, check_form, gen_form, text_of, texts_of}

-- a step of a `do` block, which is refused where the step is
infixl 10 ◌>>=◌
abbrev pub ◌>>=◌ : {A B : Type 0} → Result A UsageCause → (A → Result B UsageCause) → Result B UsageCause
Ok x >>= f = f x
Err cause >>= f = Err cause

-- ---- the forms of texts

-- a number: from 1 to 20 decimal digits
abbrev pub has_number_form : Text → Bool
has_number_form text = are_digits 20 text

-- a time, by the rules of `lab_num`, however long
abbrev pub has_time_form : Text → Bool
has_time_form text = is_some (micros_of text)

-- the text of an option is not empty and does not begin with `-`
abbrev pub is_option_text : Text → Bool
is_option_text [] = false
is_option_text (b ∷ rest) = not (is_dash b)

-- an option has a text of this form, or is not given
abbrev pub has_form_if_given : (Text → Bool) → Option Text → Bool
has_form_if_given has_form None = true
has_form_if_given has_form (Some text) = is_option_text text && has_form text

-- ---- the values of texts

abbrev pub in_range : ℕ → ℕ → ℕ → Result ℕ UsageCause
in_range least most n = if nat_le least n && nat_le n most then Ok n else Err Value

-- the number that digits write
abbrev pub number_of : ℕ → ℕ → Text → Result ℕ UsageCause
number_of least most text = in_range least most (digits_value 10 text)

-- any number of 64 bits
abbrev pub seed_of : Text → Result ℕ UsageCause
seed_of text = number_of 0 18446744073709551615 text

abbrev pub boards_of : Text → Result ℕ UsageCause
boards_of text = number_of 1 16 text

-- one worker, unless the option says more
abbrev pub workers_of : Option Text → Result ℕ UsageCause
workers_of None = Ok 1
workers_of (Some text) = number_of 1 8 text

-- a time that is too long is out of range
abbrev pub if_short : Result Micros TimeFault → Result Micros UsageCause
if_short (Ok time) = Ok time
if_short (Err fault) = Err Value

-- one second, unless the option says another time
abbrev pub until_of : Option Text → Result Micros UsageCause
until_of None = Ok (record { 0 = 1000000 })
until_of (Some text) = if_short (time_of text)

-- ---- what each command asks for, by the texts of its names

-- the form of each text comes before the range of any
abbrev pub run_of : Option Text → Option Text → Option Text → Result Request UsageCause
run_of None workers until = Err Words
run_of (Some script) workers until =
    if has_form_if_given has_number_form workers && has_form_if_given has_time_form until
    then (do
      count ← workers_of workers
      end ← until_of until
      Ok (Run script count end))
    else Err Words

abbrev pub check_of : Option Text → Result Request UsageCause
check_of None = Err Words
check_of (Some script) = Ok (Check script)

abbrev pub gen_of : Option Text → Option Text → Option Text → Result Request UsageCause
gen_of None boards workers = Err Words
gen_of (Some seed) None workers = Err Words
gen_of (Some seed) (Some boards) workers =
    if has_number_form seed && has_number_form boards && has_form_if_given has_number_form workers
    then (do
      first ← seed_of seed
      all ← boards_of boards
      count ← workers_of workers
      Ok (Gen first all count))
    else Err Words

-- ---- the words

-- words that are not of a command's form are refused as such
abbrev pub if_formed : Option (List (Text × Text)) → (List (Text × Text) → Result Request UsageCause)
    → Result Request UsageCause
if_formed None ask = Err Words
if_formed (Some given) ask = ask given

abbrev pub run_words : List Text → Result Request UsageCause
run_words words = if_formed (texts_of run_form words) (λ given.
    run_of (text_of (codes "SCRIPT") given) (text_of (codes "workers") given) (text_of (codes "until") given))

abbrev pub check_words : List Text → Result Request UsageCause
check_words words = if_formed (texts_of check_form words) (λ given. check_of (text_of (codes "SCRIPT") given))

abbrev pub gen_words : List Text → Result Request UsageCause
gen_words words = if_formed (texts_of gen_form words) (λ given.
    gen_of (text_of (codes "SEED") given) (text_of (codes "BOARDS") given) (text_of (codes "workers") given))

-- what the words after the program's name ask for, or why they are refused
unfoldable pub request_of : List Text → Result Request UsageCause
request_of [] = Err Command
request_of (command ∷ words) =
    if bytes_eq command (codes "run") then run_words words
    else (if bytes_eq command (codes "check") then check_words words
    else (if bytes_eq command (codes "gen") then gen_words words else Err Command))

-- ---- what is said of an answer

-- the words are read as they mean, unless memory ran out
abbrev pub IsReadAs : Result Request UsageCause → Result Request WordsFault → Type 0
IsReadAs meant (Ok request) = meant ≡ Ok request
IsReadAs meant (Err (Usage cause)) = meant ≡ Err cause
IsReadAs meant (Err Memory) = Unit {0}

abbrev pub IsFrom : ℕ → ℕ → ℕ → Type 0
IsFrom least most n = (least ≤ n) × (n ≤ most)

-- 1 to 8 workers, 1 to 16 boards, and at most ten thousand seconds
abbrev pub IsWithin : Request → Type 0
IsWithin (Run script workers until) = IsFrom 1 8 workers × until.0 ≤ 10 ^ 10
IsWithin (Check script) = Unit {0}
IsWithin (Gen seed boards workers) = IsFrom 1 16 boards × IsFrom 1 8 workers
