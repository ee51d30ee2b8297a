-- The fields of a valid instruction fit.
use Rattle.std.proofs.Common.{◌≡◌, ℕ, ◌+◌, ◌-◌, ◌*◌, ◌^◌, ◌<◌, refl, subst, lit<, arith}
use Rattle.std.specs.Prelude.{Option, Some, None, nat_lt, if◌then◌else◌}
use Rattle.std.specs.Option.{option_map}
use Rattle.std.proofs.lemmas.Bool.Decides.{nat_tests}
use Rattle.rv_decode.specs.declared.instruction.Op.{Op}
use Rattle.rv_decode.specs.declared.instruction.Format.{Format}
use Rattle.rv_decode.specs.declared.instruction.Format.TheVariants.{R, I, IShift, IUnsigned, S, B, U, J, Fixed}
use Rattle.rv_decode.specs.declared.instruction.Instr.{Instr}
use Rattle.rv_decode.specs.Immediate.{field, imm_i, imm_s, imm_b, imm_u, imm_j}
use Rattle.rv_decode.specs.Table.{Row, matched_row}
use Rattle.rv_decode.specs.Means.{means, fields_by, IsInstr, IsValid}

extended_fits :
    (n half rest : ℕ) → n < 2 * half → half + half + rest ≡ 2 ^ 32 →
    (if nat_lt n half then n else n + rest) < 2 ^ 32
extended_fits n half rest fits all = grind (arith, nat_tests)

imm_i_fits : (w : ℕ) → imm_i w < 2 ^ 32
imm_i_fits w = extended_fits (field w 20 12) (2 ^ 11) (2 ^ 32 - 2 ^ 12) (omega arith) refl

imm_s_fits : (w : ℕ) → imm_s w < 2 ^ 32
imm_s_fits w = extended_fits (field w 25 7 * 2 ^ 5 + field w 7 5) (2 ^ 11) (2 ^ 32 - 2 ^ 12) (omega arith) refl

imm_b_fits : (w : ℕ) → imm_b w < 2 ^ 32
imm_b_fits w =
    extended_fits (field w 31 1 * 2 ^ 12 + field w 7 1 * 2 ^ 11 + field w 25 6 * 2 ^ 5 + field w 8 4 * 2)
    (2 ^ 12) (2 ^ 32 - 2 ^ 13) (omega arith) refl

imm_u_fits : (w : ℕ) → imm_u w < 2 ^ 32
imm_u_fits w = omega arith

imm_j_fits : (w : ℕ) → imm_j w < 2 ^ 32
imm_j_fits w =
    extended_fits (field w 31 1 * 2 ^ 20 + field w 12 8 * 2 ^ 12 + field w 20 1 * 2 ^ 11 + field w 21 10 * 2)
    (2 ^ 20) (2 ^ 32 - 2 ^ 21) (omega arith) refl

register_fits : (w low : ℕ) → field w low 5 < 32
register_fits w low = omega arith

pub by_format : (f : Format) (op : Op) (w : ℕ) → IsInstr (fields_by f op w)
by_format R op w =
    record { rd = register_fits w 7; rs1 = register_fits w 15; rs2 = register_fits w 20; imm = lit< tt }
by_format I op w =
    record { rd = register_fits w 7; rs1 = register_fits w 15; rs2 = lit< tt; imm = imm_i_fits w }
by_format IShift op w =
    record { rd = register_fits w 7; rs1 = register_fits w 15; rs2 = lit< tt; imm = omega arith }
by_format IUnsigned op w =
    record { rd = register_fits w 7; rs1 = register_fits w 15; rs2 = lit< tt; imm = omega arith }
by_format S op w =
    record { rd = lit< tt; rs1 = register_fits w 15; rs2 = register_fits w 20; imm = imm_s_fits w }
by_format B op w =
    record { rd = lit< tt; rs1 = register_fits w 15; rs2 = register_fits w 20; imm = imm_b_fits w }
by_format U op w = record { rd = register_fits w 7; rs1 = lit< tt; rs2 = lit< tt; imm = imm_u_fits w }
by_format J op w = record { rd = register_fits w 7; rs1 = lit< tt; rs2 = lit< tt; imm = imm_j_fits w }
by_format Fixed op w = record { rd = lit< tt; rs1 = lit< tt; rs2 = lit< tt; imm = lit< tt }

from_row :
    (found : Option Row) (w : ℕ) (i : Instr) →
    option_map (λ row. fields_by row.format row.op w) found ≡ Some i → IsInstr i
from_row None w i is = cc
from_row (Some row) w i is =
    let same : fields_by row.format row.op w ≡ i = cc in
    subst IsInstr same (by_format row.format row.op w)

pub IsInstr-valid : (i : Instr) → IsValid i → IsInstr i
unfolding means
IsInstr-valid i valid = from_row (matched_row valid.0) valid.0 i valid.2
