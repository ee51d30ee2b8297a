-- The search of the table by the fields on which the decoder branches.
use Rattle.std.specs.Prelude.{ℕ, ◌==◌, ◌&&◌, Bool, Option}
use Rattle.std.specs.Option.{option_map}
use Rattle.std.specs.List.{find}
use Rattle.rv_decode.specs.declared.instruction.Op.{Op}
use Rattle.rv_decode.specs.declared.instruction.Format.{Format}
use Rattle.rv_decode.specs.declared.instruction.Format.TheVariants.{R, I, IShift, IUnsigned, S, B, U, J, Fixed}
use Rattle.rv_decode.specs.Immediate.{field}
use Rattle.rv_decode.specs.Table.{table}

-- whether words with these fields, and of format Fixed this word itself, match a row of this format and these bits
abbrev pub has_fields : Format → ℕ → ℕ → ℕ → ℕ → ℕ → Bool
has_fields R bits opcode funct3 funct7 word =
    (opcode == field bits 0 7) && ((funct7 == field bits 25 7) && (funct3 == field bits 12 3))
has_fields I bits opcode funct3 funct7 word = (opcode == field bits 0 7) && (funct3 == field bits 12 3)
has_fields IShift bits opcode funct3 funct7 word =
    (opcode == field bits 0 7) && ((funct7 == field bits 25 7) && (funct3 == field bits 12 3))
has_fields IUnsigned bits opcode funct3 funct7 word = (opcode == field bits 0 7) && (funct3 == field bits 12 3)
has_fields S bits opcode funct3 funct7 word = (opcode == field bits 0 7) && (funct3 == field bits 12 3)
has_fields B bits opcode funct3 funct7 word = (opcode == field bits 0 7) && (funct3 == field bits 12 3)
has_fields U bits opcode funct3 funct7 word = opcode == field bits 0 7
has_fields J bits opcode funct3 funct7 word = opcode == field bits 0 7
has_fields Fixed bits opcode funct3 funct7 word = (opcode == field bits 0 7) && (word == bits)

-- the instruction of the row whose fields these are
unfoldable pub op_by : ℕ → ℕ → ℕ → ℕ → Option Op
op_by opcode funct3 funct7 word =
    option_map (λ row. row.op) (find (λ row. has_fields row.format row.bits opcode funct3 funct7 word) table)
