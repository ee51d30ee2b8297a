-- The table of half-words (RISC-V Unprivileged ISA 20191213, section 16.8, tables 16.5 to 16.7): RV32C without its
-- instructions on floating-point numbers; and its search by masks.
use Rattle.std.specs.Prelude.{ℕ, ◌==◌, ◌&&◌, not, Bool, true, List, [], ◌∷◌, Option, bit_and}
use Rattle.std.specs.List.{find}
use Rattle.rv_decode.specs.declared.instruction.Op.{Op}
use Rattle.rv_decode.specs.declared.instruction.Op.TheVariants.{Lui, Jal, Jalr, Beq, Bne, Lw, Sw, Addi, Andi, Slli}
use Rattle.rv_decode.specs.declared.instruction.Op.TheVariants.{Srli, Srai, Add, Sub, Xor, Or, And, Ebreak}
use Rattle.rv_decode.specs.Immediate.{field}
use Rattle.rvc_decode.specs.Immediate.{Immediate, immediate_of, imm_none, imm_addi4spn, imm_word, imm_small, imm_jump}
use Rattle.rvc_decode.specs.Immediate.{imm_addi16sp, imm_lui, imm_shift, imm_branch, imm_lwsp, imm_swsp}

-- a register of the expansion: x0, x1 or x2, or one that the half-word names (section 16.2, tables 16.1 and 16.2).
-- rd is bits 11 to 7, where rs1 stands too; rs2 is bits 6 to 2. rd' is 8 + bits 9 to 7, where rs1' stands too; rs2' is
-- 8 + bits 4 to 2, where loads and C.ADDI4SPN have their rd'.
pub data Register : Type 0 where
  X0 X1 X2 Rd Rs2 Rd' Rs2' : Register

-- what a half-word with a row's bits must meet besides, since it is reserved or another row's otherwise
pub data Condition : Type 0 where
  Always ImmNot0 RdNot0 Rs2Not0 RdNot2ImmNot0 : Condition

-- a row of the table: the half-words that have these bits where the mask has ones, and meet the condition, stand for
-- this instruction with these fields
pub record Row : Type 0 where
  pub mask : ℕ
  pub bits : ℕ
  pub condition : Condition
  pub op : Op
  pub rd : Register
  pub rs1 : Register
  pub rs2 : Register
  pub imm : Immediate

abbrev pub row : ℕ → ℕ → Condition → Op → Register → Register → Register → Immediate → Row
row mask bits condition op rd rs1 rs2 imm =
    record { mask = mask; bits = bits; condition = condition; op = op; rd = rd; rs1 = rs1; rs2 = rs2; imm = imm }

-- all rows: mask, bits, condition, and the instruction with rd, rs1, rs2 and immediate. A field that it lacks is 0.
abbrev pub table : List Row
table =
    -- quadrant 0 (table 16.5)
    row 0xE003 0x0000 ImmNot0 Addi Rs2' X2 X0 imm_addi4spn ∷  -- C.ADDI4SPN
    row 0xE003 0x4000 Always Lw Rs2' Rd' X0 imm_word ∷  -- C.LW
    row 0xE003 0xC000 Always Sw X0 Rd' Rs2' imm_word ∷  -- C.SW
    -- quadrant 1 (table 16.6)
    row 0xE003 0x0001 Always Addi Rd Rd X0 imm_small ∷  -- C.ADDI, C.NOP
    row 0xE003 0x2001 Always Jal X1 X0 X0 imm_jump ∷  -- C.JAL
    row 0xE003 0x4001 Always Addi Rd X0 X0 imm_small ∷  -- C.LI
    row 0xEF83 0x6101 ImmNot0 Addi X2 X2 X0 imm_addi16sp ∷  -- C.ADDI16SP
    row 0xE003 0x6001 RdNot2ImmNot0 Lui Rd X0 X0 imm_lui ∷  -- C.LUI
    row 0xFC03 0x8001 Always Srli Rd' Rd' X0 imm_shift ∷  -- C.SRLI
    row 0xFC03 0x8401 Always Srai Rd' Rd' X0 imm_shift ∷  -- C.SRAI
    row 0xEC03 0x8801 Always Andi Rd' Rd' X0 imm_small ∷  -- C.ANDI
    row 0xFC63 0x8C01 Always Sub Rd' Rd' Rs2' imm_none ∷  -- C.SUB
    row 0xFC63 0x8C21 Always Xor Rd' Rd' Rs2' imm_none ∷  -- C.XOR
    row 0xFC63 0x8C41 Always Or Rd' Rd' Rs2' imm_none ∷  -- C.OR
    row 0xFC63 0x8C61 Always And Rd' Rd' Rs2' imm_none ∷  -- C.AND
    row 0xE003 0xA001 Always Jal X0 X0 X0 imm_jump ∷  -- C.J
    row 0xE003 0xC001 Always Beq X0 Rd' X0 imm_branch ∷  -- C.BEQZ
    row 0xE003 0xE001 Always Bne X0 Rd' X0 imm_branch ∷  -- C.BNEZ
    -- quadrant 2 (table 16.7)
    row 0xF003 0x0002 Always Slli Rd Rd X0 imm_shift ∷  -- C.SLLI
    row 0xE003 0x4002 RdNot0 Lw Rd X2 X0 imm_lwsp ∷  -- C.LWSP
    row 0xF07F 0x8002 RdNot0 Jalr X0 Rd X0 imm_none ∷  -- C.JR
    row 0xF003 0x8002 Rs2Not0 Add Rd X0 Rs2 imm_none ∷  -- C.MV
    row 0xFFFF 0x9002 Always Ebreak X0 X0 X0 imm_none ∷  -- C.EBREAK
    row 0xF07F 0x9002 RdNot0 Jalr X1 Rd X0 imm_none ∷  -- C.JALR
    row 0xF003 0x9002 Rs2Not0 Add Rd Rd Rs2 imm_none ∷  -- C.ADD
    row 0xE003 0xC002 Always Sw X0 X2 Rs2 imm_swsp ∷  -- C.SWSP
    []

-- whether a half-word with this immediate meets the condition
abbrev pub meets : Condition → ℕ → ℕ → Bool
meets Always imm half = true
meets ImmNot0 imm half = not (imm == 0)
meets RdNot0 imm half = not (field half 7 5 == 0)
meets Rs2Not0 imm half = not (field half 2 5 == 0)
meets RdNot2ImmNot0 imm half = not (field half 7 5 == 2) && not (imm == 0)

-- whether the half-word has the row's bits where the row's mask has ones, and meets the row's condition
abbrev pub matches : ℕ → Row → Bool
matches half row =
    (bit_and half row.mask == row.bits) && meets row.condition (immediate_of row.imm half) half

-- the row that the half-word matches, if it matches one
unfoldable pub matched_row : ℕ → Option Row
matched_row half = find (matches half) table
