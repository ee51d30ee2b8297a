-- The fields of a word, and the immediates of the formats (RISC-V Unprivileged ISA 20191213, section 2.3).
use Rattle.std.specs.Prelude.{ℕ, ◌+◌, ◌-◌, ◌*◌, ◌/◌, ◌%◌, ◌^◌, nat_lt, if◌then◌else◌}

-- `count` bits of a word, from bit `low` on
abbrev pub field : ℕ → ℕ → ℕ → ℕ
field word low count = word / 2 ^ low % 2 ^ count

-- a number of this many bits as 32 bits, those above filled by its highest (section 2.2)
abbrev pub sign_extended : ℕ → ℕ → ℕ
sign_extended bits n = if nat_lt n (2 ^ (bits - 1)) then n else n + (2 ^ 32 - 2 ^ bits)

-- format I: bits 31 to 20 are imm[11:0]
abbrev pub imm_i : ℕ → ℕ
imm_i word = sign_extended 12 (field word 20 12)

-- format S: bits 31 to 25 are imm[11:5], bits 11 to 7 are imm[4:0]
abbrev pub imm_s : ℕ → ℕ
imm_s word = sign_extended 12 (field word 25 7 * 2 ^ 5 + field word 7 5)

-- format B: bit 31 is imm[12], bit 7 is imm[11], bits 30 to 25 are imm[10:5], bits 11 to 8 are imm[4:1],
-- and imm[0] is 0
abbrev pub imm_b : ℕ → ℕ
imm_b word =
    sign_extended 13 (field word 31 1 * 2 ^ 12 + field word 7 1 * 2 ^ 11 + field word 25 6 * 2 ^ 5 + field word 8 4 * 2)

-- format U: bits 31 to 12 are imm[31:12], and the lower 12 bits are 0
abbrev pub imm_u : ℕ → ℕ
imm_u word = field word 12 20 * 2 ^ 12

-- format J: bit 31 is imm[20], bits 19 to 12 are imm[19:12], bit 20 is imm[11], bits 30 to 21 are imm[10:1],
-- and imm[0] is 0
abbrev pub imm_j : ℕ → ℕ
imm_j word =
    sign_extended 21
    (field word 31 1 * 2 ^ 20 + field word 12 8 * 2 ^ 12 + field word 20 1 * 2 ^ 11 + field word 21 10 * 2)
