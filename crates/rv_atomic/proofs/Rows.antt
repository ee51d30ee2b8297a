-- The test of a row's mask is a test of the fields that the mask covers, for each row of the table.
use Rattle.std.proofs.Common.{◌≡◌, ℕ, ◌+◌, ◌*◌, ◌^◌, ◌<◌, Bool, true, ◌&&◌, ◌||◌, ◌==◌, refl, ap, ◌∙◌, sym}
use Rattle.std.proofs.Common.{inl, inr, arith, rules}
use Rattle.std.specs.Prelude.{bit_and, Option, Some, None}
use Rattle.std.specs.Option.{option_map}
use Rattle.std.specs.List.{list_all}
use Rattle.std.proofs.lemmas.Bool.{eqb-true, and_parts, cases_Bool}
use Rattle.rv_decode.specs.Immediate.{field}
use Rattle.rv_decode.proofs.Tests.{find-same}
use Rattle.rv_atomic.specs.declared.atomic.AtomicOp.{AtomicOp}
use Rattle.rv_atomic.specs.Table.{Row, matches, matched_row, table}
use Rattle.rv_atomic.specs.Means.{atomic_of, registers_of}
use Rattle.rv_atomic.specs.Inner.ByFields.{has_fields, op_by}
use Rattle.rv_atomic.proofs.Masks.{mask_free, mask_fixed, three_fields, four_fields}

-- the fields that a mask of a row covers, with rs2 and without
abbrev fixed : ℕ → ℕ
fixed w = field w 0 7 + field w 12 3 * 2 ^ 12 + field w 20 5 * 2 ^ 20 + field w 27 5 * 2 ^ 27

abbrev free : ℕ → ℕ
free w = field w 0 7 + field w 12 3 * 2 ^ 12 + field w 27 5 * 2 ^ 27

-- whether a row has one of the two masks, and its bits are those that the mask covers
abbrev is_fixed : Row → Bool
is_fixed r = (r.mask == 0xF9F0707F) && (fixed r.bits == r.bits)

abbrev is_free : Row → Bool
is_free r = (r.mask == 0xF800707F) && (free r.bits == r.bits)

abbrev is_regular : Row → Bool
is_regular r = is_fixed r || is_free r

-- computed over all rows
is_regular-table : list_all is_regular table ≡ true
is_regular-table = refl

fixed-fields :
    (w : ℕ) (r : Row) → w < 2 ^ 32 → is_fixed r ≡ true →
    matches w r ≡ has_fields r (field w 0 7) (field w 12 3) (field w 27 5) (field w 20 5)
fixed-fields w r fits is =
    let parts = and_parts (r.mask == 0xF9F0707F) (fixed r.bits == r.bits) is in
    let mask = eqb-true r.mask 0xF9F0707F parts.0 in
    let own = eqb-true (fixed r.bits) r.bits parts.1 in
    ap (λ v. v == r.bits) (ap (bit_and w) mask ∙ mask_fixed w fits) ∙
    (ap (λ v. fixed w == v) (sym own) ∙
    (four_fields (field w 0 7) (field w 12 3) (field w 20 5) (field w 27 5) _ _ _ _
    (omega arith) (omega arith) (omega arith) (omega arith) (omega arith) (omega arith) ∙
    rw mask refl))

free-fields :
    (w : ℕ) (r : Row) → w < 2 ^ 32 → is_free r ≡ true →
    matches w r ≡ has_fields r (field w 0 7) (field w 12 3) (field w 27 5) (field w 20 5)
free-fields w r fits is =
    let parts = and_parts (r.mask == 0xF800707F) (free r.bits == r.bits) is in
    let mask = eqb-true r.mask 0xF800707F parts.0 in
    let own = eqb-true (free r.bits) r.bits parts.1 in
    ap (λ v. v == r.bits) (ap (bit_and w) mask ∙ mask_free w fits) ∙
    (ap (λ v. free w == v) (sym own) ∙
    (three_fields (field w 0 7) (field w 12 3) (field w 27 5) _ _ _
    (omega arith) (omega arith) (omega arith) (omega arith) ∙
    rw mask (all_true (field w 0 7 == field r.bits 0 7) (field w 12 3 == field r.bits 12 3)
    (field w 27 5 == field r.bits 27 5))))
  where
    all_true : (a b c : Bool) → (a && (b && c)) ≡ (a && (b && (c && true)))
    all_true a b c = grind rules

matches-fields :
    (w : ℕ) (r : Row) → w < 2 ^ 32 → is_regular r ≡ true →
    matches w r ≡ has_fields r (field w 0 7) (field w 12 3) (field w 27 5) (field w 20 5)
matches-fields w r fits regular =
    elim (cases_Bool (is_fixed r)) [
      | inl on ↦ fixed-fields w r fits on
      | inr off ↦ free-fields w r fits (rw off at regular)
    ]

-- the search of the table by masks is the search by fields
matched_row-by :
    (w : ℕ) → w < 2 ^ 32 →
    option_map (λ row. row.op) (matched_row w)
    ≡ op_by (field w 0 7) (field w 12 3) (field w 27 5) (field w 20 5)
unfolding matched_row op_by
matched_row-by w fits =
    ap (option_map (λ row. row.op))
    (find-same is_regular _ _ table (λ r regular. matches-fields w r fits regular) is_regular-table)

with_registers :
    (w : ℕ) (found : Option Row) →
    option_map (λ op. registers_of op w) (option_map (λ row. row.op) found)
    ≡ option_map (λ row. registers_of row.op w) found
with_registers w None = refl
with_registers w (Some row) = refl

-- so what the fields give is what the word means
pub atomic_of-by :
    (w : ℕ) (found : Option AtomicOp) → w < 2 ^ 32 →
    found ≡ op_by (field w 0 7) (field w 12 3) (field w 27 5) (field w 20 5) →
    option_map (λ op. registers_of op w) found ≡ atomic_of w
unfolding atomic_of
atomic_of-by w found fits is =
    ap (option_map (λ op. registers_of op w)) (is ∙ sym (matched_row-by w fits)) ∙ with_registers w (matched_row w)
