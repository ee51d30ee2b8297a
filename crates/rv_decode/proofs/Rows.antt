-- The test of a row's mask is a test of the fields that the mask covers, for each row of the table.
use Rattle.std.proofs.Common.{◌≡◌, ℕ, ◌+◌, ◌*◌, ◌^◌, ◌<◌, ◌↔◌, Bool, true, ◌&&◌, ◌==◌, refl, ap, ◌∙◌, sym}
use Rattle.std.proofs.Common.{arith}
use Rattle.std.specs.Prelude.{bit_and, Contains, Some}
use Rattle.std.specs.Option.{option_map}
use Rattle.std.specs.List.{list_all}
use Rattle.std.proofs.lemmas.Bool.{eqb-true, eq-eqb, and_parts}
use Rattle.rv_decode.specs.declared.instruction.Format.{Format}
use Rattle.rv_decode.specs.declared.instruction.Format.TheVariants.{R, I, IShift, IUnsigned, S, B, U, J, Fixed}
use Rattle.rv_decode.specs.Immediate.{field}
use Rattle.rv_decode.specs.FixedBits.{fixed_of}
use Rattle.rv_decode.specs.Table.{Row, matches, matched_row, table}
use Rattle.rv_decode.specs.Inner.ByFields.{has_fields, op_by}
use Rattle.rv_decode.proofs.Tests.{holds-row, found-passes, find-same}
use Rattle.rv_decode.proofs.Sole.{matched_row-is}
use Rattle.rv_decode.proofs.Masks.{mask_opcode, mask_funct3, mask_funct7, mask_word, two_fields, three_fields}
use Rattle.rv_decode.proofs.Masks.{same_word}

-- the mask of a format's rows
abbrev mask_by : Format → ℕ
mask_by R = 0xFE00707F
mask_by I = 0x707F
mask_by IShift = 0xFE00707F
mask_by IUnsigned = 0x707F
mask_by S = 0x707F
mask_by B = 0x707F
mask_by U = 0x7F
mask_by J = 0x7F
mask_by Fixed = 0xFFFFFFFF

masked : (f : Format) (w : ℕ) → w < 2 ^ 32 → bit_and w (mask_by f) ≡ fixed_of f w
masked R w fits = mask_funct7 w fits
masked I w fits = mask_funct3 w
masked IShift w fits = mask_funct7 w fits
masked IUnsigned w fits = mask_funct3 w
masked S w fits = mask_funct3 w
masked B w fits = mask_funct3 w
masked U w fits = mask_opcode w
masked J w fits = mask_opcode w
masked Fixed w fits = mask_word w fits

-- whether a row has the mask of its format, and its bits are what that format fixes of them
abbrev pub is_regular : Row → Bool
is_regular r = (r.mask == mask_by r.format) && (fixed_of r.format r.bits == r.bits)

-- computed over all rows
pub is_regular-table : list_all is_regular table ≡ true
is_regular-table = refl

-- a row's test is one of the bits that its format fixes
pub matches-fixed :
    (w : ℕ) (r : Row) → w < 2 ^ 32 → is_regular r ≡ true → matches w r ≡ (fixed_of r.format w == r.bits)
matches-fixed w r fits regular =
    let parts = and_parts (r.mask == mask_by r.format) (fixed_of r.format r.bits == r.bits) regular in
    let mask = eqb-true r.mask (mask_by r.format) parts.0 in
    ap (λ v. v == r.bits) (ap (bit_and w) mask ∙ masked r.format w fits)

with_funct3 :
    (w bits : ℕ) →
    (field w 0 7 + field w 12 3 * 2 ^ 12 == field bits 0 7 + field bits 12 3 * 2 ^ 12) ≡
    ((field w 0 7 == field bits 0 7) && (field w 12 3 == field bits 12 3))
with_funct3 w bits = two_fields (field w 0 7) (field w 12 3) _ _ (omega arith) (omega arith)

with_funct7 :
    (w bits : ℕ) →
    (field w 0 7 + field w 12 3 * 2 ^ 12 + field w 25 7 * 2 ^ 25 ==
    field bits 0 7 + field bits 12 3 * 2 ^ 12 + field bits 25 7 * 2 ^ 25) ≡
    ((field w 0 7 == field bits 0 7) &&
    ((field w 25 7 == field bits 25 7) && (field w 12 3 == field bits 12 3)))
with_funct7 w bits =
    three_fields (field w 0 7) (field w 12 3) (field w 25 7) _ _ _
    (omega arith) (omega arith) (omega arith) (omega arith)

-- the same bits are fixed where the fields are the same
same_fields :
    (f : Format) (w bits : ℕ) →
    (fixed_of f w == fixed_of f bits) ≡ has_fields f bits (field w 0 7) (field w 12 3) (field w 25 7) w
same_fields R w bits = with_funct7 w bits
same_fields I w bits = with_funct3 w bits
same_fields IShift w bits = with_funct7 w bits
same_fields IUnsigned w bits = with_funct3 w bits
same_fields S w bits = with_funct3 w bits
same_fields B w bits = with_funct3 w bits
same_fields U w bits = refl
same_fields J w bits = refl
same_fields Fixed w bits = same_word w bits

matches-fields :
    (w : ℕ) (r : Row) → w < 2 ^ 32 → is_regular r ≡ true →
    matches w r ≡ has_fields r.format r.bits (field w 0 7) (field w 12 3) (field w 25 7) w
matches-fields w r fits regular =
    let parts = and_parts (r.mask == mask_by r.format) (fixed_of r.format r.bits == r.bits) regular in
    let own = eqb-true (fixed_of r.format r.bits) r.bits parts.1 in
    matches-fixed w r fits regular ∙
    (ap (λ v. fixed_of r.format w == v) (sym own) ∙ same_fields r.format w r.bits)

-- the search of the table by masks is the search by fields
pub matched_row-by :
    (w : ℕ) → w < 2 ^ 32 →
    option_map (λ row. row.op) (matched_row w) ≡ op_by (field w 0 7) (field w 12 3) (field w 25 7) w
unfolding matched_row op_by
matched_row-by w fits =
    ap (option_map (λ row. row.op))
    (find-same is_regular _ _ table (λ r regular. matches-fields w r fits regular) is_regular-table)

pub row_matches :
    (w : ℕ) (r : Row) → w < 2 ^ 32 → Contains table r →
    (matched_row w ≡ Some r) ↔ (fixed_of r.format w ≡ r.bits)
unfolding matched_row
row_matches w r fits there =
    let same = matches-fixed w r fits (holds-row is_regular table r is_regular-table there) in (
      λ found. eqb-true _ _ (sym same ∙ found-passes (matches w) table r found),
      λ is. matched_row-is w r there (same ∙ eq-eqb _ _ is),
    )
