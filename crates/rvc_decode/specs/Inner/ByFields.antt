-- The search of the table by the fields on which the decoder branches.
use Rattle.std.specs.Prelude.{ℕ, ◌+◌, ◌==◌, ◌&&◌, Bool, true, if◌then◌else◌, Option}
use Rattle.std.specs.Option.{option_map}
use Rattle.std.specs.List.{find}
use Rattle.rv_decode.specs.declared.instruction.Instr.{Instr}
use Rattle.rv_decode.specs.Immediate.{field}
use Rattle.rvc_decode.specs.Immediate.{immediate_of}
use Rattle.rvc_decode.specs.Table.{Row, table, meets}
use Rattle.rvc_decode.specs.Means.{expanded}

-- whether bit 12 is the row's, where the row fixes it
abbrev pub has_bit_12 : Row → ℕ → Bool
has_bit_12 row half =
    if field row.mask 12 1 == 0 then true else (field half 12 1 == field row.bits 12 1)

-- whether the five bits from `low` on are the row's, where the row fixes all of them or the upper two
abbrev pub has_five : ℕ → Row → ℕ → Bool
has_five low row half =
    if field row.mask low 5 == 0 then true else
    if field row.mask low 5 == 31 then (field half low 5 == field row.bits low 5) else
    (field half (low + 3) 2 == field row.bits (low + 3) 2)

-- whether a half-word with this quadrant and funct3 matches the row
abbrev pub has_fields : ℕ → ℕ → ℕ → Row → Bool
has_fields quadrant funct3 half row =
    ((quadrant == field row.bits 0 2) && ((funct3 == field row.bits 13 3) &&
    (has_bit_12 row half && (has_five 7 row half && has_five 2 row half)))) &&
    meets row.condition (immediate_of row.imm half) half

-- what a half-word with this quadrant and funct3 means
unfoldable pub expansion_by : ℕ → ℕ → ℕ → Option Instr
expansion_by quadrant funct3 half =
    option_map (λ row. expanded row half) (find (has_fields quadrant funct3 half) table)
