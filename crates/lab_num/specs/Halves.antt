-- The halves of a register of 64 bits that is read and written as two words.
use Rattle.std.specs.Prelude.{ℕ, ◌+◌, ◌*◌, ◌/◌, ◌%◌, ◌^◌}

abbrev pub low : ℕ → ℕ
low value = value % 2 ^ 32

abbrev pub high : ℕ → ℕ
high value = value / 2 ^ 32

-- the register after a write of one of its halves
abbrev pub with_low : ℕ → ℕ → ℕ
with_low value word = high value * 2 ^ 32 + word

abbrev pub with_high : ℕ → ℕ → ℕ
with_high value word = word * 2 ^ 32 + low value
