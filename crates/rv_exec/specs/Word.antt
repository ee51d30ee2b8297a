-- Arithmetic on words, the numbers below 2^32 (RISC-V Unprivileged ISA 20191213, sections 2.4 and 7).
use Rattle.std.specs.Prelude.{ℕ, ℤ, pos, ◌+◌, ◌-◌, ◌*◌, ◌/◌, ◌%◌, ◌^◌, ◌*ℤ◌, ◌==◌, ◌&&◌, Bool, if◌then◌else◌, nat_lt}
use Rattle.std.specs.Prelude.{int_lt, int_div, int_rem}
use Rattle.std.specs.Int.{Width, w32, cast_signed, cast_unsigned, int_shr}
use Rattle.rv_hart.specs.Csr.{flag}

-- the signed number of a word, and the word of a signed number
abbrev pub signed : ℕ → ℤ
signed a = cast_signed w32 a

abbrev pub word_of : ℤ → ℕ
word_of z = cast_unsigned w32 z

-- ADD and SUB (section 2.4)
abbrev pub add : ℕ → ℕ → ℕ
add a b = (a + b) % 2 ^ 32

abbrev pub sub : ℕ → ℕ → ℕ
sub a b = (a + (2 ^ 32 - b)) % 2 ^ 32

-- the shifts go by the lower five bits of the second operand (section 2.4)
abbrev pub shift_left : ℕ → ℕ → ℕ
shift_left a b = a * 2 ^ (b % 32) % 2 ^ 32

abbrev pub shift_right : ℕ → ℕ → ℕ
shift_right a b = a / 2 ^ (b % 32)

-- the arithmetic shift fills the upper bits with the sign
abbrev pub shift_right_signed : ℕ → ℕ → ℕ
shift_right_signed a b = word_of (int_shr (signed a) (b % 32))

-- SLT and SLTU: 1 where the first operand is less, or else 0 (section 2.4)
abbrev pub less : ℕ → ℕ → ℕ
less a b = flag (int_lt (signed a) (signed b))

abbrev pub less_unsigned : ℕ → ℕ → ℕ
less_unsigned a b = flag (nat_lt a b)

-- MUL: the lower word of the product (section 7.1)
abbrev pub product : ℕ → ℕ → ℕ
product a b = a * b % 2 ^ 32

-- MULH, MULHSU and MULHU: the upper word of the product of two signed numbers, of a signed and an unsigned one, and of
-- two unsigned ones (section 7.1)
abbrev pub upper_signed : ℕ → ℕ → ℕ
upper_signed a b = word_of (int_shr (signed a *ℤ signed b) 32)

abbrev pub upper_mixed : ℕ → ℕ → ℕ
upper_mixed a b = word_of (int_shr (signed a *ℤ pos b) 32)

abbrev pub upper_unsigned : ℕ → ℕ → ℕ
upper_unsigned a b = a * b / 2 ^ 32

-- the words of -2^31 and -1, whose quotient fits no word
abbrev pub is_overflow : ℕ → ℕ → Bool
is_overflow a b = (a == 2 ^ 31) && (b == 2 ^ 32 - 1)

-- DIV and REM round towards zero; by zero they give all ones and the dividend, and -2^31 by -1 gives -2^31 and 0
-- (section 7.2, table 7.1)
abbrev pub quotient : ℕ → ℕ → ℕ
quotient a b =
    if b == 0 then 2 ^ 32 - 1
    else if is_overflow a b then 2 ^ 31
    else word_of (int_div (signed a) (signed b))

abbrev pub remainder : ℕ → ℕ → ℕ
remainder a b =
    if b == 0 then a
    else if is_overflow a b then 0
    else word_of (int_rem (signed a) (signed b))

-- DIVU and REMU (section 7.2, table 7.1)
abbrev pub quotient_unsigned : ℕ → ℕ → ℕ
quotient_unsigned a b = if b == 0 then 2 ^ 32 - 1 else a / b

abbrev pub remainder_unsigned : ℕ → ℕ → ℕ
remainder_unsigned a b = if b == 0 then a else a % b

-- a number of this width as a word whose upper bits are its sign (section 2.6)
abbrev pub extended : Width → ℕ → ℕ
extended width a = word_of (cast_signed width a)
