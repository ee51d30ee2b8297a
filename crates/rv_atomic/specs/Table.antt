-- The table of the atomic instructions on words (RISC-V Unprivileged ISA 20191213, chapter 24, RV32A), and its search
-- by masks.
use Rattle.std.specs.Prelude.{ℕ, ◌==◌, Bool, List, [], ◌∷◌, Option, bit_and}
use Rattle.std.specs.List.{find}
use Rattle.rv_atomic.specs.declared.atomic.AtomicOp.{AtomicOp}
use Rattle.rv_atomic.specs.declared.atomic.AtomicOp.TheVariants.{Lr, Sc, Swap, Add, Xor, And, Or, Min, Max, Minu, Maxu}

-- a row of the table: the words that have these bits where the mask has ones are this instruction's
pub record Row : Type 0 where
  pub mask : ℕ
  pub bits : ℕ
  pub op : AtomicOp

abbrev pub row : ℕ → ℕ → AtomicOp → Row
row mask bits op = record { mask = mask; bits = bits; op = op }

-- all rows: mask, bits, instruction. A mask covers the opcode, funct3 and the five bits above aq and rl, which are
-- free, and of LR rs2 too, which is 0.
abbrev pub table : List Row
table =
    -- load-reserved and store-conditional (section 8.2)
    row 0xF9F0707F 0x1000202F Lr ∷
    row 0xF800707F 0x1800202F Sc ∷
    -- atomic memory operations (section 8.4)
    row 0xF800707F 0x0800202F Swap ∷
    row 0xF800707F 0x0000202F Add ∷
    row 0xF800707F 0x2000202F Xor ∷
    row 0xF800707F 0x6000202F And ∷
    row 0xF800707F 0x4000202F Or ∷
    row 0xF800707F 0x8000202F Min ∷
    row 0xF800707F 0xA000202F Max ∷
    row 0xF800707F 0xC000202F Minu ∷
    row 0xF800707F 0xE000202F Maxu ∷
    []

-- whether the word has the row's bits where the row's mask has ones
abbrev pub matches : ℕ → Row → Bool
matches word row = bit_and word row.mask == row.bits

-- the row that the word matches, if it matches one
unfoldable pub matched_row : ℕ → Option Row
matched_row word = find (matches word) table
