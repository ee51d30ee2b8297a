-- A number as the code holds it.
use Rattle.std.specs.Prelude.{ℕ, ◌-◌, ◌^◌, ◌==◌, min, Bool, if◌then◌else◌}
use Rattle.std.specs.Char.{is_ascii_digit, is_ascii_hexdigit}
use Rattle.rv_asm.specs.declared.numbers.Number.{Number}

-- the greatest magnitude that is told apart: those above are outside each field all the same
abbrev pub most : ℕ
most = 2 ^ 64 - 1

abbrev pub saturated : Number → Number
saturated n = record { negative = n.negative; magnitude = min n.magnitude most }

-- a digit of radix 10 or 16
abbrev pub is_digit_of : ℕ → ℕ → Bool
is_digit_of radix b = if radix == 16 then is_ascii_hexdigit b else is_ascii_digit b
