-- The search of the table by the fields on which the decoder branches.
use Rattle.std.specs.Prelude.{ℕ, ◌==◌, ◌&&◌, ◌||◌, Bool, Option}
use Rattle.std.specs.Option.{option_map}
use Rattle.std.specs.List.{find}
use Rattle.rv_decode.specs.Immediate.{field}
use Rattle.rv_atomic.specs.declared.atomic.AtomicOp.{AtomicOp}
use Rattle.rv_atomic.specs.Table.{Row, table}

-- whether words with these fields match the row: opcode, funct3, the five bits above aq and rl, and rs2, as far as the
-- row's mask covers it
abbrev pub has_fields : Row → ℕ → ℕ → ℕ → ℕ → Bool
has_fields row opcode funct3 funct5 rs2 =
    (opcode == field row.bits 0 7) && ((funct3 == field row.bits 12 3) &&
    ((funct5 == field row.bits 27 5) && ((field row.mask 20 5 == 0) || (rs2 == field row.bits 20 5))))

-- the instruction of the row whose fields these are
unfoldable pub op_by : ℕ → ℕ → ℕ → ℕ → Option AtomicOp
op_by opcode funct3 funct5 rs2 =
    option_map (λ row. row.op) (find (λ row. has_fields row opcode funct3 funct5 rs2) table)
