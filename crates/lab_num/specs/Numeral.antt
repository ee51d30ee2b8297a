-- Numbers as platform files and scripts write them.
use Rattle.std.specs.Prelude.{ℕ, ◌==◌, ◌^◌, ◌&&◌, not, nat_eq, nat_lt, Bool, if◌then◌else◌, List, length, drop, codes}
use Rattle.std.specs.Prelude.{Option, Some, None}
use Rattle.std.specs.Char.{is_ascii_digit, is_ascii_hexdigit}
use Rattle.std.specs.List.{list_all, starts_with}
use Rattle.std.specs.Str.Parse.{digits_value}

-- the number below 2 ^ 32 that digits of a radix write, any count of zeros in front
abbrev pub numeral : (ℕ → Bool) → ℕ → List ℕ → Option ℕ
numeral is_digit radix text =
    if not (length text == 0) && list_all is_digit text && nat_lt (digits_value radix text) (2 ^ 32)
    then Some (digits_value radix text)
    else None

-- decimal digits, or `0x` and hexadecimal digits in either case
abbrev pub number_of : List ℕ → Option ℕ
number_of text =
    if starts_with nat_eq text (codes "0x")
    then numeral is_ascii_hexdigit 16 (drop 2 text)
    else numeral is_ascii_digit 10 text
