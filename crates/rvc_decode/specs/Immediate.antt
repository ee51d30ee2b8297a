-- The immediates of half-words (RISC-V Unprivileged ISA 20191213, section 16.8, tables 16.5 to 16.7).
use Rattle.std.specs.Prelude.{ℕ, ◌+◌, ◌-◌, ◌*◌, ◌^◌, List, [], ◌∷◌}
use Rattle.rv_decode.specs.Immediate.{field, sign_extended}

-- imm[high:low], which stands in the half-word from bit `from` down
pub record Bits : Type 0 where
  pub high : ℕ
  pub low : ℕ
  pub from : ℕ

abbrev pub imm : ℕ → ℕ → ℕ → Bits
imm high low from = record { high = high; low = low; from = from }

-- an immediate by the places of its bits, the others being 0. One with a sign says how many bits it has.
pub data Immediate : Type 0 where
  Unsigned : List Bits → Immediate
  Signed : ℕ → List Bits → Immediate

-- the number that these bits of a half-word make
abbrev pub gathered : List Bits → ℕ → ℕ
gathered [] half = 0
gathered (b ∷ places) half =
    field half (b.from - (b.high - b.low)) (b.high - b.low + 1) * 2 ^ b.low + gathered places half

-- the immediate of a half-word, as 32 bits
abbrev pub immediate_of : Immediate → ℕ → ℕ
immediate_of (Unsigned places) half = gathered places half
immediate_of (Signed count places) half = sign_extended count (gathered places half)

-- no immediate
abbrev pub imm_none : Immediate
imm_none = Unsigned []

-- C.ADDI4SPN: nzuimm[5:4|9:6|2|3] in bits 12 to 5
abbrev pub imm_addi4spn : Immediate
imm_addi4spn = Unsigned (imm 5 4 12 ∷ imm 9 6 10 ∷ imm 2 2 6 ∷ imm 3 3 5 ∷ [])

-- C.LW, C.SW: uimm[5:3] in bits 12 to 10, uimm[2|6] in bits 6 to 5
abbrev pub imm_word : Immediate
imm_word = Unsigned (imm 5 3 12 ∷ imm 2 2 6 ∷ imm 6 6 5 ∷ [])

-- C.ADDI, C.LI, C.ANDI: imm[5] in bit 12, imm[4:0] in bits 6 to 2
abbrev pub imm_small : Immediate
imm_small = Signed 6 (imm 5 5 12 ∷ imm 4 0 6 ∷ [])

-- C.JAL, C.J: imm[11|4|9:8|10|6|7|3:1|5] in bits 12 to 2
abbrev pub imm_jump : Immediate
imm_jump =
    Signed 12
    (imm 11 11 12 ∷ imm 4 4 11 ∷ imm 9 8 10 ∷ imm 10 10 8 ∷ imm 6 6 7 ∷ imm 7 7 6 ∷ imm 3 1 5 ∷ imm 5 5 2 ∷ [])

-- C.ADDI16SP: nzimm[9] in bit 12, nzimm[4|6|8:7|5] in bits 6 to 2
abbrev pub imm_addi16sp : Immediate
imm_addi16sp = Signed 10 (imm 9 9 12 ∷ imm 4 4 6 ∷ imm 6 6 5 ∷ imm 8 7 4 ∷ imm 5 5 2 ∷ [])

-- C.LUI: nzimm[17] in bit 12, nzimm[16:12] in bits 6 to 2
abbrev pub imm_lui : Immediate
imm_lui = Signed 18 (imm 17 17 12 ∷ imm 16 12 6 ∷ [])

-- C.SRLI, C.SRAI, C.SLLI: nzuimm[4:0] in bits 6 to 2
abbrev pub imm_shift : Immediate
imm_shift = Unsigned (imm 4 0 6 ∷ [])

-- C.BEQZ, C.BNEZ: imm[8|4:3] in bits 12 to 10, imm[7:6|2:1|5] in bits 6 to 2
abbrev pub imm_branch : Immediate
imm_branch = Signed 9 (imm 8 8 12 ∷ imm 4 3 11 ∷ imm 7 6 6 ∷ imm 2 1 4 ∷ imm 5 5 2 ∷ [])

-- C.LWSP: uimm[5] in bit 12, uimm[4:2|7:6] in bits 6 to 2
abbrev pub imm_lwsp : Immediate
imm_lwsp = Unsigned (imm 5 5 12 ∷ imm 4 2 6 ∷ imm 7 6 3 ∷ [])

-- C.SWSP: uimm[5:2|7:6] in bits 12 to 7
abbrev pub imm_swsp : Immediate
imm_swsp = Unsigned (imm 5 2 12 ∷ imm 7 6 8 ∷ [])
