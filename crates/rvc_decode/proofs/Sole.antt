-- No half-word matches two rows of the table.
use Rattle.std.proofs.Common.{◌≡◌, ℕ, ◌≤◌, Bool, true, false, not, ◌&&◌, ◌||◌, ◌==◌, refl, ap, ◌∙◌, sym}
use Rattle.std.proofs.Common.{arith}
use Rattle.std.specs.Prelude.{bit_and, count_by}
use Rattle.std.proofs.lemmas.Bool.{eqb-true, eq-eqb, and_parts, false_from_ne_true, both_ways}
use Rattle.rv_decode.specs.Immediate.{field}
use Rattle.rv_decode.proofs.Apart.{all_apart, at_most_one, masks_agree}
use Rattle.rvc_decode.specs.Immediate.{immediate_of}
use Rattle.rvc_decode.specs.Table.{Condition, Always, ImmNot0, RdNot0, Rs2Not0, RdNot2ImmNot0, Row, meets, matches}
use Rattle.rvc_decode.specs.Table.{table}
use Rattle.rvc_decode.proofs.Masks.{field_and, all_bits}

-- a register that a row fixes
fixed_register :
    (half mask bits low : ℕ) → bit_and half mask ≡ bits → field mask low 5 ≡ 31 → field half low 5 ≡ field bits low 5
fixed_register half mask bits low is whole =
    let there = field_and half mask low 5 in
    let all = all_bits (field half low 5) 5 (omega arith) in
    let same : field bits low 5 ≡ bit_and (field half low 5) 31 = rw (← is, there, whole) refl in
    sym (same ∙ all)

-- whether a row fixes this register as this number
abbrev fixes : ℕ → ℕ → Row → Bool
fixes low number row = (field row.mask low 5 == 31) && (field row.bits low 5 == number)

-- whether a condition refuses all half-words of a row
abbrev refuses : Condition → Row → Bool
refuses Always row = false
refuses ImmNot0 row = false
refuses RdNot0 row = fixes 7 0 row
refuses Rs2Not0 row = fixes 2 0 row
refuses RdNot2ImmNot0 row = fixes 7 2 row

fixed_number :
    (half low number : ℕ) (row : Row) → bit_and half row.mask ≡ row.bits → fixes low number row ≡ true →
    (field half low 5 == number) ≡ true
fixed_number half low number row is fixed =
    let parts = and_parts (field row.mask low 5 == 31) (field row.bits low 5 == number) fixed in
    let register = fixed_register half row.mask row.bits low is (eqb-true _ _ parts.0) in
    rw register parts.1

meets-refused :
    (condition : Condition) (half imm : ℕ) (row : Row) → bit_and half row.mask ≡ row.bits →
    refuses condition row ≡ true → meets condition imm half ≡ false
meets-refused Always half imm row is refused = cc
meets-refused ImmNot0 half imm row is refused = cc
meets-refused RdNot0 half imm row is refused = ap not (fixed_number half 7 0 row is refused)
meets-refused Rs2Not0 half imm row is refused = ap not (fixed_number half 2 0 row is refused)
meets-refused RdNot2ImmNot0 half imm row is refused =
    ap (λ v. not v && not (imm == 0)) (fixed_number half 7 2 row is refused)

-- two rows differ in a bit that both fix, or one's condition refuses the other
abbrev is_apart : Row → Row → Bool
is_apart r s =
    not (bit_and r.bits s.mask == bit_and s.bits r.mask) || (refuses r.condition s || refuses s.condition r)

-- a half-word with a row's bits that meets its condition
has_bits : (half : ℕ) (r : Row) → matches half r ≡ true → bit_and half r.mask ≡ r.bits
has_bits half r is =
    eqb-true _ _ (and_parts (bit_and half r.mask == r.bits) (meets r.condition (immediate_of r.imm half) half) is).0

not_refused :
    (half : ℕ) (r s : Row) → matches half r ≡ true → matches half s ≡ true → refuses r.condition s ≡ false
not_refused half r s p q =
    let parts = and_parts (bit_and half r.mask == r.bits) (meets r.condition (immediate_of r.imm half) half) p in
    false_from_ne_true (refuses r.condition s)
    (λ refused.
    both_ways _ (meets-refused r.condition half (immediate_of r.imm half) s (has_bits half s q) refused) parts.1)

-- two rows that a half-word matches are not apart
is_apart-matched :
    (half : ℕ) (r s : Row) → matches half r ≡ true → matches half s ≡ true → is_apart r s ≡ false
is_apart-matched half r s p q =
    let same = masks_agree half r.mask s.mask r.bits s.bits (has_bits half r p) (has_bits half s q) in
    rw (eq-eqb _ _ same, not_refused half r s p q, not_refused half s r q p) refl

-- computed over all pairs of rows
all_apart-table : all_apart is_apart table ≡ true
all_apart-table = refl

pub sole_row : (half : ℕ) → count_by (matches half) table ≤ 1
sole_row half = at_most_one is_apart (matches half) (is_apart-matched half) table all_apart-table
