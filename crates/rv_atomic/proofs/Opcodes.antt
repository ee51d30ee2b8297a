-- The opcode of the atomic instructions is no other's.
use Rattle.std.proofs.Common.{◌≡◌, ℕ, ◌^◌, ◌/◌, ◌%◌, ◌&&◌, ◌==◌, Bool, true, not, refl, ap, ◌∙◌, sym, List, []}
use Rattle.std.proofs.Common.{◌∷◌, inl, inr, arith}
use Rattle.std.specs.Prelude.{Option, Some, None, IsSome, bit_and, find}
use Rattle.std.specs.Option.{option_map}
use Rattle.std.specs.List.{list_all}
use Rattle.std.proofs.lemmas.Nat.{and_mask, and_shr, and_mod}
use Rattle.std.proofs.lemmas.Bool.{and_parts, both_ways, cases_Bool, eq-eqb, eqb-true}
use Rattle.rv_decode.specs.Immediate.{field}
use Rattle.rv_decode.specs.Means.{means}
use Rattle.rv_decode.specs.Table as base
use Rattle.rv_atomic.specs.Means.{atomic_of, registers_of}
use Rattle.rv_atomic.specs.Table.{Row, matches, matched_row, table}

-- a word with these bits where a mask has ones has their opcode, if the mask covers it
pub same_opcode :
    (w mask bits : ℕ) → bit_and w mask ≡ bits → (field mask 0 7 == 127) ≡ true → field w 0 7 ≡ field bits 0 7
same_opcode w mask bits is covers =
    let whole : bit_and (field w 0 7) 127 ≡ field w 0 7 = and_mask (field w 0 7) 7 ∙ omega arith in
    let there : field (bit_and w mask) 0 7 ≡ bit_and (field w 0 7) (field mask 0 7) =
    ap (λ v. v % 2 ^ 7) (and_shr w mask 0) ∙ and_mod (w / 2 ^ 0) (mask / 2 ^ 0) 7 in
    sym whole ∙ (ap (bit_and (field w 0 7)) (sym (eqb-true _ _ covers)) ∙ (sym there ∙ ap (λ v. field v 0 7) is))

-- whether a row has the opcode of the atomic instructions, and whether one of the other table has another
abbrev is_atomic : Row → Bool
is_atomic r = (field r.mask 0 7 == 127) && (field r.bits 0 7 == 0x2F)

abbrev is_other : base.Row → Bool
is_other r = (field r.mask 0 7 == 127) && not (field r.bits 0 7 == 0x2F)

-- computed over all rows
is_atomic-table : list_all is_atomic table ≡ true
is_atomic-table = refl

is_other-table : list_all is_other base.table ≡ true
is_other-table = refl

atomic_opcode :
    (w : ℕ) (rs : List Row) → list_all is_atomic rs ≡ true → IsSome (find (matches w) rs) → field w 0 7 ≡ 0x2F
atomic_opcode w [] all some = cc
atomic_opcode w (r ∷ rs) all some =
    let parts = and_parts (is_atomic r) (list_all is_atomic rs) all in
    let own = and_parts (field r.mask 0 7 == 127) (field r.bits 0 7 == 0x2F) parts.0 in
    elim (cases_Bool (matches w r)) [
      | inl on ↦ same_opcode w r.mask r.bits (eqb-true _ _ on) own.0 ∙ eqb-true _ _ own.1
      | inr off ↦ atomic_opcode w rs parts.1 (rw off at some)
    ]

none_other :
    (w : ℕ) (rs : List base.Row) → list_all is_other rs ≡ true → field w 0 7 ≡ 0x2F → find (base.matches w) rs ≡ None
none_other w [] all opcode = refl
none_other w (r ∷ rs) all opcode =
    let parts = and_parts (is_other r) (list_all is_other rs) all in
    let own = and_parts (field r.mask 0 7 == 127) (not (field r.bits 0 7 == 0x2F)) parts.0 in
    elim (cases_Bool (base.matches w r)) [
      | inl on ↦
          let same = sym (same_opcode w r.mask r.bits (eqb-true _ _ on) own.0) ∙ opcode in
          absurd (both_ways _ (ap not (eq-eqb (field r.bits 0 7) 0x2F same)) own.1)
      | inr off ↦ rw off (none_other w rs parts.1 opcode)
    ]

some_row : (w : ℕ) (found : Option Row) → IsSome (option_map (λ row. registers_of row.op w) found) → IsSome found
some_row w None some = some
some_row w (Some row) some = refl

pub no_other : (w : ℕ) → IsSome (atomic_of w) → means w ≡ None
unfolding means base.matched_row atomic_of matched_row
no_other w some =
    let opcode = atomic_opcode w table is_atomic-table (some_row w (find (matches w) table) some) in
    ap (option_map _) (none_other w base.table is_other-table opcode)
