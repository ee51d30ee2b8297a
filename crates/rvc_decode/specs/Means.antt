-- What a half-word means: the instruction of the row that it matches, with the fields that the row says.
use Rattle.std.specs.Prelude.{ℕ, ◌+◌, Option}
use Rattle.std.specs.Option.{option_map}
use Rattle.rv_decode.specs.declared.instruction.Instr.{Instr}
use Rattle.rv_decode.specs.Immediate.{field}
use Rattle.rvc_decode.specs.Immediate.{immediate_of}
use Rattle.rvc_decode.specs.Table.{Register, X0, X1, X2, Rd, Rs2, Rd', Rs2', Row, matched_row}

-- the number of a register (section 16.2)
abbrev pub number_of : Register → ℕ → ℕ
number_of X0 half = 0
number_of X1 half = 1
number_of X2 half = 2
number_of Rd half = field half 7 5
number_of Rs2 half = field half 2 5
number_of Rd' half = 8 + field half 7 3
number_of Rs2' half = 8 + field half 2 3

-- the instruction that a half-word of this row stands for
abbrev pub expanded : Row → ℕ → Instr
expanded row half =
    record {
      op = row.op;
      rd = number_of row.rd half;
      rs1 = number_of row.rs1 half;
      rs2 = number_of row.rs2 half;
      imm = immediate_of row.imm half;
    }

-- the instruction that a half-word stands for, if it stands for one
unfoldable pub expansion : ℕ → Option Instr
expansion half = option_map (λ row. expanded row half) (matched_row half)
