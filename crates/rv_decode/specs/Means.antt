-- What a word means: the row of the table that it matches, with the fields of the row's format.
use Rattle.std.specs.Prelude.{◌≡◌, ℕ, ◌^◌, ◌<◌, Bool, true, false, Option, Some}
use Rattle.std.specs.Option.{option_map}
use Rattle.rv_decode.specs.declared.instruction.Op.{Op}
use Rattle.rv_decode.specs.declared.instruction.Op.TheVariants.{Jal, Beq, Bne, Blt, Bge, Bltu, Bgeu}
use Rattle.rv_decode.specs.declared.instruction.Instr.{Instr}
use Rattle.rv_decode.specs.declared.instruction.Format.{Format}
use Rattle.rv_decode.specs.declared.instruction.Format.TheVariants.{R, I, IShift, IUnsigned, S, B, U, J, Fixed}
use Rattle.rv_decode.specs.Immediate.{field, imm_i, imm_s, imm_b, imm_u, imm_j}
use Rattle.rv_decode.specs.Table.{matched_row}

-- the number of the destination register (section 2.2)
abbrev pub rd_of : ℕ → ℕ
rd_of word = field word 7 5

-- the number of the first source register
abbrev pub rs1_of : ℕ → ℕ
rs1_of word = field word 15 5

-- the number of the second source register
abbrev pub rs2_of : ℕ → ℕ
rs2_of word = field word 20 5

-- the fields of a word of this format, 0 where the format lacks one (section 2.3).
-- A shift's amount is bits 24 to 20 (section 2.4). A fence's sets (section 2.7) and the number of a
-- control and status register (section 9.1) are bits 31 to 20, without a sign; the number in place of
-- a register, which some accesses have, is in the bits of `rs1`.
abbrev pub fields_by : Format → Op → ℕ → Instr
fields_by R op word = record { op = op; rd = rd_of word; rs1 = rs1_of word; rs2 = rs2_of word; imm = 0 }
fields_by I op word = record { op = op; rd = rd_of word; rs1 = rs1_of word; rs2 = 0; imm = imm_i word }
fields_by IShift op word = record { op = op; rd = rd_of word; rs1 = rs1_of word; rs2 = 0; imm = field word 20 5 }
fields_by IUnsigned op word = record { op = op; rd = rd_of word; rs1 = rs1_of word; rs2 = 0; imm = field word 20 12 }
fields_by S op word = record { op = op; rd = 0; rs1 = rs1_of word; rs2 = rs2_of word; imm = imm_s word }
fields_by B op word = record { op = op; rd = 0; rs1 = rs1_of word; rs2 = rs2_of word; imm = imm_b word }
fields_by U op word = record { op = op; rd = rd_of word; rs1 = 0; rs2 = 0; imm = imm_u word }
fields_by J op word = record { op = op; rd = rd_of word; rs1 = 0; rs2 = 0; imm = imm_j word }
fields_by Fixed op word = record { op = op; rd = 0; rs1 = 0; rs2 = 0; imm = 0 }

-- the instruction that a word means, if it means one
unfoldable pub means : ℕ → Option Instr
means word = option_map (λ row. fields_by row.format row.op word) (matched_row word)

-- the fields of an instruction fit
pub record IsInstr (i : Instr) : Type 0 where
  pub rd : i.rd < 32
  pub rs1 : i.rs1 < 32
  pub rs2 : i.rs2 < 32
  pub imm : i.imm < 2 ^ 32

-- an instruction that some word means
abbrev pub IsValid : Instr → Type 0
IsValid i = (word : ℕ) × (word < 2 ^ 32) × (means word ≡ Some i)

-- whether the immediate of an instruction is an offset from its own place: of JAL and of the conditional branches
-- (section 2.5)
abbrev pub is_relative : Op → Bool
is_relative Jal = true
is_relative Beq = true
is_relative Bne = true
is_relative Blt = true
is_relative Bge = true
is_relative Bltu = true
is_relative Bgeu = true
is_relative _ = false
