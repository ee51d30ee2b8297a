-- The search of the table by masks is the search by fields.
use Rattle.std.proofs.Common.{◌≡◌, ℕ, ◌-◌, ◌/◌, ◌^◌, ◌<◌, Bool, true, ◌&&◌, ◌==◌, refl, ap, ◌∙◌}
use Rattle.std.proofs.Common.{arith}
use Rattle.std.specs.Prelude.{None, bit_and, nat_lt}
use Rattle.std.specs.Int.Bits.{and_lt}
use Rattle.std.specs.Option.{option_map}
use Rattle.std.specs.List.{list_all}
use Rattle.std.proofs.lemmas.Bool.{eqb-true, ltb-true, and_parts}
use Rattle.rv_decode.specs.Immediate.{field}
use Rattle.rv_decode.proofs.Tests.{find-same}
use Rattle.rvc_decode.specs.Immediate.{immediate_of}
use Rattle.rvc_decode.specs.Table.{Row, matches, matched_row, meets, table}
use Rattle.rvc_decode.specs.Means.{expanded, expansion}
use Rattle.rvc_decode.specs.Inner.ByFields.{has_bit_12, has_five, has_fields, expansion_by}
use Rattle.rvc_decode.proofs.Masks.{field_and, all_bits, is_five, five, is_one, one, same_fields}

-- whether a row's mask takes quadrant and funct3, bit 12 or not, and of either register all bits, the upper two or none
abbrev is_regular : Row → Bool
is_regular row =
    (nat_lt row.mask (2 ^ 16) && nat_lt row.bits (2 ^ 16)) &&
    ((field row.mask 0 2 == 3) && ((field row.mask 13 3 == 7) &&
    (is_one (field row.mask 12 1) (field row.bits 12 1) &&
    (is_five (field row.mask 7 5) (field row.bits 7 5) && is_five (field row.mask 2 5) (field row.bits 2 5)))))

-- computed over all rows
is_regular-table : list_all is_regular table ≡ true
is_regular-table = refl

-- the upper two of five bits
upper_7 : (w : ℕ) → field w 7 5 / 8 ≡ field w 10 2
upper_7 w = omega arith

upper_2 : (w : ℕ) → field w 2 5 / 8 ≡ field w 5 2
upper_2 w = omega arith

-- the test of a regular row is one of the fields
all_same :
    (a b c d e a' b' c' d' e' : Bool) → a ≡ a' → b ≡ b' → c ≡ c' → d ≡ d' → e ≡ e' →
    (a && (b && (c && (d && e)))) ≡ (a' && (b' && (c' && (d' && e'))))
all_same a b c d e a' b' c' d' e' p q r s t = rw (p, q, r, s, t) refl

-- the test of a field that the mask takes whole
whole_field :
    (half mask bits low count : ℕ) → field half low count < 2 ^ count → (field mask low count == 2 ^ count - 1) ≡ true →
    (field (bit_and half mask) low count == field bits low count) ≡ (field half low count == field bits low count)
whole_field half mask bits low count fits whole =
    let is = eqb-true (field mask low count) (2 ^ count - 1) whole in
    ap (λ v. v == field bits low count)
    (field_and half mask low count ∙
    (ap (bit_and (field half low count)) is ∙ all_bits (field half low count) count fits))

-- the test of five bits from bit 7 or bit 2 on
five_7 :
    (half : ℕ) (row : Row) → is_five (field row.mask 7 5) (field row.bits 7 5) ≡ true →
    (field (bit_and half row.mask) 7 5 == field row.bits 7 5) ≡ has_five 7 row half
five_7 half row regular =
    ap (λ v. v == field row.bits 7 5) (field_and half row.mask 7 5) ∙
    (five (field half 7 5) (field row.mask 7 5) (field row.bits 7 5) (omega arith) regular ∙
    rw (upper_7 half, upper_7 row.bits) refl)

five_2 :
    (half : ℕ) (row : Row) → is_five (field row.mask 2 5) (field row.bits 2 5) ≡ true →
    (field (bit_and half row.mask) 2 5 == field row.bits 2 5) ≡ has_five 2 row half
five_2 half row regular =
    ap (λ v. v == field row.bits 2 5) (field_and half row.mask 2 5) ∙
    (five (field half 2 5) (field row.mask 2 5) (field row.bits 2 5) (omega arith) regular ∙
    rw (upper_2 half, upper_2 row.bits) refl)

bit_12 :
    (half : ℕ) (row : Row) → is_one (field row.mask 12 1) (field row.bits 12 1) ≡ true →
    (field (bit_and half row.mask) 12 1 == field row.bits 12 1) ≡ has_bit_12 row half
bit_12 half row regular =
    ap (λ v. v == field row.bits 12 1) (field_and half row.mask 12 1) ∙
    one (field half 12 1) (field row.mask 12 1) (field row.bits 12 1) (omega arith) regular

matches-fields :
    (half : ℕ) (row : Row) → half < 2 ^ 16 → is_regular row ≡ true →
    matches half row ≡ has_fields (field half 0 2) (field half 13 3) half row
matches-fields half row fits regular =
    let parts = and_parts (nat_lt row.mask (2 ^ 16) && nat_lt row.bits (2 ^ 16)) _ regular in
    let small = and_parts (nat_lt row.mask (2 ^ 16)) (nat_lt row.bits (2 ^ 16)) parts.0 in
    let mask : row.mask < 2 ^ 16 = ltb-true row.mask (2 ^ 16) small.0 in
    let bits : row.bits < 2 ^ 16 = ltb-true row.bits (2 ^ 16) small.1 in
    let quadrant = and_parts (field row.mask 0 2 == 3) _ parts.1 in
    let funct3 = and_parts (field row.mask 13 3 == 7) _ quadrant.1 in
    let twelve = and_parts (is_one (field row.mask 12 1) (field row.bits 12 1)) _ funct3.1 in
    let fives = and_parts (is_five (field row.mask 7 5) (field row.bits 7 5)) _ twelve.1 in
    ap (λ v. v && meets row.condition (immediate_of row.imm half) half)
    (same_fields (bit_and half row.mask) row.bits (and_lt 16 half row.mask fits mask) bits ∙
    all_same _ _ _ _ _ _ _ _ _ _
    (whole_field half row.mask row.bits 0 2 (omega arith) quadrant.0)
    (whole_field half row.mask row.bits 13 3 (omega arith) funct3.0)
    (bit_12 half row twelve.0) (five_7 half row fives.0) (five_2 half row fives.1))

pub expansion-by_fields :
    (half : ℕ) → half < 2 ^ 16 → expansion half ≡ expansion_by (field half 0 2) (field half 13 3) half
unfolding expansion matched_row expansion_by
expansion-by_fields half fits =
    ap (option_map (λ row. expanded row half))
    (find-same is_regular _ _ table (λ row regular. matches-fields half row fits regular) is_regular-table)

-- a half-word whose low two bits are 11 is the lower half of an instruction of four bytes
none_long : (quadrant funct3 half : ℕ) → quadrant ≡ 3 → expansion_by quadrant funct3 half ≡ None
unfolding expansion_by
none_long quadrant funct3 half long = rw long refl

pub expansion-long : (half : ℕ) → half < 2 ^ 16 → field half 0 2 ≡ 3 → expansion half ≡ None
expansion-long half fits long =
    expansion-by_fields half fits ∙ none_long (field half 0 2) (field half 13 3) half long
