-- Each row of a jump or a branch has a format whose immediate is even.
use Rattle.std.proofs.Common.{◌≡◌, ℕ, ◌+◌, ◌-◌, ◌*◌, ◌%◌, ◌^◌, Bool, true, not, refl, subst, arith}
use Rattle.std.specs.Prelude.{Option, Some, None, nat_lt, if◌then◌else◌}
use Rattle.std.specs.Option.{option_map}
use Rattle.std.specs.List.{list_all}
use Rattle.std.proofs.lemmas.Bool.Decides.{nat_tests}
use Rattle.rv_decode.specs.declared.instruction.Op.{Op}
use Rattle.rv_decode.specs.declared.instruction.Format.{Format}
use Rattle.rv_decode.specs.declared.instruction.Format.TheVariants.{R, I, IShift, IUnsigned, S, B, U, J, Fixed}
use Rattle.rv_decode.specs.declared.instruction.Instr.{Instr}
use Rattle.rv_decode.specs.Immediate.{field}
use Rattle.rv_decode.specs.Table.{Row, table, matches, matched_row}
use Rattle.rv_decode.specs.Means.{means, fields_by, is_relative, IsValid}
use Rattle.rv_decode.proofs.Tests.{holds-found}

-- whether each immediate of the format is even, where the instruction has an offset
abbrev is_even_by : Format → Op → Bool
is_even_by B op = true
is_even_by J op = true
is_even_by _ op = not (is_relative op)

abbrev is_even : Row → Bool
is_even row = is_even_by row.format row.op

-- computed over all rows
is_even-table : list_all is_even table ≡ true
is_even-table = refl

even_extended :
    (n half rest : ℕ) → n % 2 ≡ 0 → rest % 2 ≡ 0 → (if nat_lt n half then n else n + rest) % 2 ≡ 0
even_extended n half rest even above = grind (arith, nat_tests)

even_fields :
    (f : Format) (op : Op) (w : ℕ) → is_even_by f op ≡ true → is_relative (fields_by f op w).op ≡ true →
    (fields_by f op w).imm % 2 ≡ 0
even_fields B op w even relative =
    even_extended (field w 31 1 * 2 ^ 12 + field w 7 1 * 2 ^ 11 + field w 25 6 * 2 ^ 5 + field w 8 4 * 2)
    (2 ^ 12) (2 ^ 32 - 2 ^ 13) (omega arith) refl
even_fields J op w even relative =
    even_extended (field w 31 1 * 2 ^ 20 + field w 12 8 * 2 ^ 12 + field w 20 1 * 2 ^ 11 + field w 21 10 * 2)
    (2 ^ 20) (2 ^ 32 - 2 ^ 21) (omega arith) refl
even_fields R op w even relative = refl
even_fields Fixed op w even relative = refl
even_fields I op w even relative = cc
even_fields IShift op w even relative = cc
even_fields IUnsigned op w even relative = cc
even_fields S op w even relative = cc
even_fields U op w even relative = cc

from_row :
    (found : Option Row) (w : ℕ) (i : Instr) → ((row : Row) → found ≡ Some row → is_even row ≡ true) →
    option_map (λ row. fields_by row.format row.op w) found ≡ Some i → is_relative i.op ≡ true → i.imm % 2 ≡ 0
from_row None w i even is relative = cc
from_row (Some row) w i even is relative =
    let same : fields_by row.format row.op w ≡ i = cc in
    let P : Instr → Type 0 = λ j. is_relative j.op ≡ true → j.imm % 2 ≡ 0 in
    subst P same (even_fields row.format row.op w (even row refl)) relative

pub even_offset : (i : Instr) → IsValid i → is_relative i.op ≡ true → i.imm % 2 ≡ 0
unfolding means matched_row
even_offset i valid relative =
    from_row (matched_row valid.0) valid.0 i
    (λ row found. holds-found (matches valid.0) is_even table row is_even-table found) valid.2 relative
