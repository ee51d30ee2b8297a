-- Numbers: a sign and a magnitude, and the field that they fit.
use Rattle.std.specs.Prelude.{ℕ, ◌-◌, ◌^◌, ◌%◌, ◌==◌, nat_le, drop, length, Bool, true, false, not, ◌&&◌, List}
use Rattle.std.specs.Prelude.{if◌then◌else◌, Option, Some, None, nat_eq}
use Rattle.std.specs.Option.{option_map}
use Rattle.std.specs.List.{list_all, starts_with}
use Rattle.std.specs.Char.{is_ascii_digit, is_ascii_hexdigit}
use Rattle.std.specs.Str.Parse.{digits_value}
use Rattle.std.specs.Prelude.{codes}
use Rattle.rv_asm.specs.declared.numbers.Number.{Number}

-- the number that digits of a radix write, any count of zeros in front
abbrev pub numeral : (ℕ → Bool) → ℕ → List ℕ → Option ℕ
numeral is_digit radix text =
    if not (length text == 0) && list_all is_digit text then Some (digits_value radix text) else None

-- decimal digits, or hexadecimal ones after `0x`
abbrev pub magnitude_of : List ℕ → Option ℕ
magnitude_of text =
    if starts_with nat_eq text (codes "0x")
    then numeral is_ascii_hexdigit 16 (drop 2 text)
    else numeral is_ascii_digit 10 text

-- a magnitude, or `-` and a magnitude
abbrev pub number_of : List ℕ → Option Number
number_of text =
    if starts_with nat_eq text (codes "-")
    then option_map (λ n. record { negative = true; magnitude = n }) (magnitude_of (drop 1 text))
    else option_map (λ n. record { negative = false; magnitude = n }) (magnitude_of text)

-- the number as 32 bits, if it is from -least to greatest
abbrev pub in_field : ℕ → ℕ → Number → Option ℕ
in_field least greatest n =
    if n.negative
    then (if nat_le n.magnitude least then Some ((2 ^ 32 - n.magnitude) % 2 ^ 32) else None)
    else (if nat_le n.magnitude greatest then Some n.magnitude else None)

-- an even number, as 32 bits, if it is in the field
abbrev pub even_in_field : ℕ → ℕ → Number → Option ℕ
even_in_field least greatest n = if n.magnitude % 2 == 0 then in_field least greatest n else None
