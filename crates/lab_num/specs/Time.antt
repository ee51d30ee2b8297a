-- The texts of times: `S`, `S.F`, `H:M:S` and `H:M:S.F`.
use Rattle.std.specs.Prelude.{ℕ, ◌+◌, ◌-◌, ◌*◌, ◌^◌, Bool, ◌==◌, ◌&&◌, nat_le, nat_lt, if◌then◌else◌, List, length}
use Rattle.std.specs.Prelude.{Option, Some, None, Result, Ok, Err, option_and_then}
use Rattle.std.specs.Char.{is_ascii_digit}
use Rattle.std.specs.List.{list_all, position_or_len, before_first, after_first}
use Rattle.std.specs.Option.{option_map}
use Rattle.std.specs.Str.{byte}
use Rattle.std.specs.Str.Parse.{digits_value}
use Rattle.lab_num.specs.declared.number.Micros.{Micros}
use Rattle.lab_num.specs.declared.time.TimeFault.{TimeFault}
use Rattle.lab_num.specs.declared.time.TimeFault.TheVariants.{Form, Limit}

-- a step of a `do` block, which gives nothing where the step does
infixl 10 ◌>>=◌
abbrev ◌>>=◌ : {A B : Type 0} → Option A → (A → Option B) → Option B
o >>= f = option_and_then f o

-- the text before the first sign and the text after it
abbrev pub cut : ℕ → List ℕ → Option (List ℕ × List ℕ)
cut sign text =
    if nat_lt (position_or_len (λ b. b == sign) text) (length text)
    then Some (before_first (λ b. b == sign) text, after_first (λ b. b == sign) text)
    else None

-- the first where a text has no sign, and the second of the two parts where it is cut
abbrev pub with_cut : {X : Type 0} → Option (List ℕ × List ℕ) → X → (List ℕ → List ℕ → X) → X
with_cut None alone both = alone
with_cut (Some x) alone both = both x.0 x.1

-- from one to `most` decimal digits, and nothing else
abbrev pub are_digits : ℕ → List ℕ → Bool
are_digits most text = nat_le 1 (length text) && nat_le (length text) most && list_all is_ascii_digit text

-- the number that they write
abbrev pub digits : ℕ → List ℕ → Option ℕ
digits most text = if are_digits most text then Some (digits_value 10 text) else None

-- minutes, or the seconds after them: one or two digits, at most 59
abbrev pub sixtieths : List ℕ → Option ℕ
sixtieths text = do
  n ← digits 2 text
  if nat_le n 59 then Some n else None

-- hours, minutes and seconds, in seconds
abbrev pub sum_of : List ℕ → List ℕ → List ℕ → Option ℕ
sum_of h m s = do
  hours ← digits 4 h
  minutes ← sixtieths m
  seconds ← sixtieths s
  Some (hours * 3600 + minutes * 60 + seconds)

-- `S` or `H:M:S`, in seconds
abbrev pub clock_of : List ℕ → Option ℕ
clock_of text =
    with_cut (cut (byte ":") text) (digits 10 text)
    (λ h rest. with_cut (cut (byte ":") rest) None (λ m s. sum_of h m s))

-- the digits after the point, in microseconds
abbrev pub fraction_of : List ℕ → Option ℕ
fraction_of text = do
  n ← digits 6 text
  Some (n * 10 ^ (6 - length text))

-- `S`, `S.F`, `H:M:S` or `H:M:S.F`, in microseconds
abbrev pub micros_of : List ℕ → Option ℕ
micros_of text =
    with_cut (cut (byte ".") text) (option_map (λ seconds. seconds * 1000000) (clock_of text))
    (λ clock fraction. do
      seconds ← clock_of clock
      micros ← fraction_of fraction
      Some (seconds * 1000000 + micros))

-- a time, where it is at most ten thousand seconds
abbrev pub within_limit : Option ℕ → Result Micros TimeFault
within_limit None = Err Form
within_limit (Some n) = if nat_le n (10 ^ 10) then Ok (record { 0 = n }) else Err Limit

-- the time that a text says
abbrev pub time_of : List ℕ → Result Micros TimeFault
time_of text = within_limit (micros_of text)
