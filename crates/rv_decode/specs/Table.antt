-- The table of instructions (RISC-V Unprivileged ISA 20191213, chapter 24), and its search by masks.
use Rattle.std.specs.Prelude.{ℕ, ◌==◌, Bool, List, [], ◌∷◌, Option, bit_and}
use Rattle.std.specs.List.{find}
use Rattle.rv_decode.specs.declared.instruction.Op.{Op}
use Rattle.rv_decode.specs.declared.instruction.Op.TheVariants.{Lui, Auipc, Jal, Jalr, Beq, Bne, Blt, Bge, Bltu, Bgeu}
use Rattle.rv_decode.specs.declared.instruction.Op.TheVariants.{Lb, Lh, Lw, Lbu, Lhu, Sb, Sh, Sw, Addi, Slti, Sltiu}
use Rattle.rv_decode.specs.declared.instruction.Op.TheVariants.{Xori, Ori, Andi, Slli, Srli, Srai, Add, Sub, Sll, Slt}
use Rattle.rv_decode.specs.declared.instruction.Op.TheVariants.{Sltu, Xor, Srl, Sra, Or, And, Fence, Ecall, Ebreak}
use Rattle.rv_decode.specs.declared.instruction.Op.TheVariants.{FenceI, Csrrw, Csrrs, Csrrc, Csrrwi, Csrrsi, Csrrci}
use Rattle.rv_decode.specs.declared.instruction.Op.TheVariants.{Mul, Mulh, Mulhsu, Mulhu, Div, Divu, Rem, Remu, Mret}
use Rattle.rv_decode.specs.declared.instruction.Op.TheVariants.{Wfi}
use Rattle.rv_decode.specs.declared.instruction.Format.{Format}
use Rattle.rv_decode.specs.declared.instruction.Format.TheVariants.{R, I, IShift, IUnsigned, S, B, U, J, Fixed}
use Rattle.rv_decode.specs.SameOp.{is_same_op}

-- a row of the table: the words that have these bits where the mask has ones are this instruction's, in this format
pub record Row : Type 0 where
  pub mask : ℕ
  pub bits : ℕ
  pub format : Format
  pub op : Op

abbrev pub row : ℕ → ℕ → Format → Op → Row
row mask bits format op = record { mask = mask; bits = bits; format = format; op = op }

-- all rows: mask, bits, format, instruction. A mask covers the opcode, or also funct3, or also funct7, or all bits.
abbrev pub table : List Row
table =
    -- upper immediates (section 2.4)
    row 0x0000007F 0x00000037 U Lui ∷
    row 0x0000007F 0x00000017 U Auipc ∷
    -- jumps (section 2.5)
    row 0x0000007F 0x0000006F J Jal ∷
    row 0x0000707F 0x00000067 I Jalr ∷
    -- conditional branches (section 2.5)
    row 0x0000707F 0x00000063 B Beq ∷
    row 0x0000707F 0x00001063 B Bne ∷
    row 0x0000707F 0x00004063 B Blt ∷
    row 0x0000707F 0x00005063 B Bge ∷
    row 0x0000707F 0x00006063 B Bltu ∷
    row 0x0000707F 0x00007063 B Bgeu ∷
    -- loads and stores (section 2.6)
    row 0x0000707F 0x00000003 I Lb ∷
    row 0x0000707F 0x00001003 I Lh ∷
    row 0x0000707F 0x00002003 I Lw ∷
    row 0x0000707F 0x00004003 I Lbu ∷
    row 0x0000707F 0x00005003 I Lhu ∷
    row 0x0000707F 0x00000023 S Sb ∷
    row 0x0000707F 0x00001023 S Sh ∷
    row 0x0000707F 0x00002023 S Sw ∷
    -- a register and an immediate (section 2.4)
    row 0x0000707F 0x00000013 I Addi ∷
    row 0x0000707F 0x00002013 I Slti ∷
    row 0x0000707F 0x00003013 I Sltiu ∷
    row 0x0000707F 0x00004013 I Xori ∷
    row 0x0000707F 0x00006013 I Ori ∷
    row 0x0000707F 0x00007013 I Andi ∷
    row 0xFE00707F 0x00001013 IShift Slli ∷
    row 0xFE00707F 0x00005013 IShift Srli ∷
    row 0xFE00707F 0x40005013 IShift Srai ∷
    -- two registers (section 2.4)
    row 0xFE00707F 0x00000033 R Add ∷
    row 0xFE00707F 0x40000033 R Sub ∷
    row 0xFE00707F 0x00001033 R Sll ∷
    row 0xFE00707F 0x00002033 R Slt ∷
    row 0xFE00707F 0x00003033 R Sltu ∷
    row 0xFE00707F 0x00004033 R Xor ∷
    row 0xFE00707F 0x00005033 R Srl ∷
    row 0xFE00707F 0x40005033 R Sra ∷
    row 0xFE00707F 0x00006033 R Or ∷
    row 0xFE00707F 0x00007033 R And ∷
    -- fences of data (section 2.7) and of instructions (chapter 3)
    row 0x0000707F 0x0000000F IUnsigned Fence ∷
    row 0x0000707F 0x0000100F IUnsigned FenceI ∷
    -- calls and breakpoints (section 2.8)
    row 0xFFFFFFFF 0x00000073 Fixed Ecall ∷
    row 0xFFFFFFFF 0x00100073 Fixed Ebreak ∷
    -- the return from a trap and the wait for an interrupt (Privileged Architecture 20211203, sections 3.3.2, 3.3.3)
    row 0xFFFFFFFF 0x30200073 Fixed Mret ∷
    row 0xFFFFFFFF 0x10500073 Fixed Wfi ∷
    -- control and status registers (section 9.1)
    row 0x0000707F 0x00001073 IUnsigned Csrrw ∷
    row 0x0000707F 0x00002073 IUnsigned Csrrs ∷
    row 0x0000707F 0x00003073 IUnsigned Csrrc ∷
    row 0x0000707F 0x00005073 IUnsigned Csrrwi ∷
    row 0x0000707F 0x00006073 IUnsigned Csrrsi ∷
    row 0x0000707F 0x00007073 IUnsigned Csrrci ∷
    -- products and quotients (chapter 7)
    row 0xFE00707F 0x02000033 R Mul ∷
    row 0xFE00707F 0x02001033 R Mulh ∷
    row 0xFE00707F 0x02002033 R Mulhsu ∷
    row 0xFE00707F 0x02003033 R Mulhu ∷
    row 0xFE00707F 0x02004033 R Div ∷
    row 0xFE00707F 0x02005033 R Divu ∷
    row 0xFE00707F 0x02006033 R Rem ∷
    row 0xFE00707F 0x02007033 R Remu ∷
    []

-- whether the word has the row's bits where the row's mask has ones
abbrev pub matches : ℕ → Row → Bool
matches word row = bit_and word row.mask == row.bits

-- the row that the word matches, if it matches one
unfoldable pub matched_row : ℕ → Option Row
matched_row word = find (matches word) table

-- the row of an instruction
unfoldable pub row_of : Op → Option Row
row_of op = find (λ row. is_same_op row.op op) table
