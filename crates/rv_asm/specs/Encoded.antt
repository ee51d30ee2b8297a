-- The word of an instruction, with its fields in the places of its format (RISC-V Unprivileged ISA 20191213,
-- section 2.3).
use Rattle.std.specs.Prelude.{ℕ, ◌+◌, ◌*◌, ◌^◌, Option, Some, None}
use Rattle.std.specs.Option.{option_map}
use Rattle.rv_decode.specs.declared.instruction.Op.{Op}
use Rattle.rv_decode.specs.declared.instruction.Instr.{Instr}
use Rattle.rv_decode.specs.declared.instruction.Format.{Format}
use Rattle.rv_decode.specs.declared.instruction.Format.TheVariants.{R, I, IShift, IUnsigned, S, B, U, J, Fixed}
use Rattle.rv_decode.specs.Immediate.{field}
use Rattle.rv_decode.specs.FixedBits.{fixed_of}
use Rattle.rv_decode.specs.Table.{row_of}

-- an immediate of format S: imm[4:0] at bit 7, imm[11:5] at bit 25
abbrev pub placed_s : ℕ → ℕ
placed_s imm = field imm 0 5 * 2 ^ 7 + field imm 5 7 * 2 ^ 25

-- of format B: imm[11] at bit 7, imm[4:1] at bit 8, imm[10:5] at bit 25, imm[12] at bit 31
abbrev pub placed_b : ℕ → ℕ
placed_b imm = field imm 11 1 * 2 ^ 7 + field imm 1 4 * 2 ^ 8 + field imm 5 6 * 2 ^ 25 + field imm 12 1 * 2 ^ 31

-- of format J: imm[19:12] at bit 12, imm[11] at bit 20, imm[10:1] at bit 21, imm[20] at bit 31
abbrev pub placed_j : ℕ → ℕ
placed_j imm = field imm 12 8 * 2 ^ 12 + field imm 11 1 * 2 ^ 20 + field imm 1 10 * 2 ^ 21 + field imm 20 1 * 2 ^ 31

-- the fields of an instruction in their places, beside the fixed bits of its words
abbrev pub encoded_by : Format → ℕ → Instr → ℕ
encoded_by R fixed i = fixed + i.rd * 2 ^ 7 + i.rs1 * 2 ^ 15 + i.rs2 * 2 ^ 20
encoded_by I fixed i = fixed + i.rd * 2 ^ 7 + i.rs1 * 2 ^ 15 + field i.imm 0 12 * 2 ^ 20
encoded_by IShift fixed i = fixed + i.rd * 2 ^ 7 + i.rs1 * 2 ^ 15 + field i.imm 0 5 * 2 ^ 20
encoded_by IUnsigned fixed i = fixed + i.rd * 2 ^ 7 + i.rs1 * 2 ^ 15 + field i.imm 0 12 * 2 ^ 20
encoded_by S fixed i = fixed + i.rs1 * 2 ^ 15 + i.rs2 * 2 ^ 20 + placed_s i.imm
encoded_by B fixed i = fixed + i.rs1 * 2 ^ 15 + i.rs2 * 2 ^ 20 + placed_b i.imm
encoded_by U fixed i = fixed + i.rd * 2 ^ 7 + field i.imm 12 20 * 2 ^ 12
encoded_by J fixed i = fixed + i.rd * 2 ^ 7 + placed_j i.imm
encoded_by Fixed fixed i = fixed

-- the word of an instruction whose fields fit: what its row fixes, and its fields
unfoldable pub encoded : Instr → Option ℕ
encoded i = option_map (λ row. encoded_by row.format (fixed_of row.format row.bits) i) (row_of i.op)

-- the word of the instruction with these fields, if its immediate fits
abbrev pub word_with : Op → ℕ → ℕ → ℕ → Option ℕ → Option ℕ
word_with op rd rs1 rs2 None = None
word_with op rd rs1 rs2 (Some imm) = encoded (record { op = op; rd = rd; rs1 = rs1; rs2 = rs2; imm = imm })
