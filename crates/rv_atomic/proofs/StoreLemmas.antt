-- The opcode of the stores: a word with another one stores nothing.
use Rattle.std.proofs.Common.{◌≡◌, ◌∙◌, ℕ, ◌&&◌, ◌||◌, ◌==◌, Bool, true, false, List, [], ◌∷◌, inl, inr, refl, sym, ap}
use Rattle.std.specs.Prelude.{Option, Some, None, find, option_and_then}
use Rattle.std.specs.Option.{is_none, option_map, option_map_or}
use Rattle.std.specs.List.{list_all}
use Rattle.std.proofs.lemmas.Bool.{and_parts, cases_Bool, eqb-true}
use Rattle.rv_decode.specs.Immediate.{field}
use Rattle.rv_decode.specs.Means.{fields_by, means}
use Rattle.rv_decode.specs.Table.{Row, matches, matched_row, table}
use Rattle.rv_decode.proofs.Formats.{op-fields_by}
use Rattle.rv_hart.specs.declared.csr.Lines.{Lines}
use Rattle.rv_hart.specs.Core.{Core}
use Rattle.rv_exec.specs.declared.fetched.Fetched.TheVariants.{Bad, Good}
use Rattle.rv_exec.specs.Effect.{address, effect, of_word}
use Rattle.rv_atomic.specs.Inner.StoreWidth.{aligned_span, store_width}
use Rattle.rv_atomic.specs.Laws.{EndsNone}
use Rattle.rv_atomic.specs.SharedEffect.{shared_effect}
use Rattle.rv_atomic.specs.Span.{span_of}
use Rattle.rv_atomic.proofs.Opcodes.{same_opcode}
use Rattle.rv_atomic.proofs.SpanLemmas.{span-by}

-- whether a row has the opcode of the stores, or its instruction is none
abbrev is_apart : Row → Bool
is_apart r = (field r.mask 0 7 == 127) && ((field r.bits 0 7 == 0x23) || is_none (store_width r.op))

-- computed over all rows
is_apart-table : list_all is_apart table ≡ true
is_apart-table = refl

by_row : (same : Bool) (width : Option ℕ) → (same || is_none width) ≡ true → same ≡ false → width ≡ None
by_row true width is other = cc
by_row false None is other = refl
by_row false (Some width) is other = cc

no_width :
    (w : ℕ) (rs : List Row) → list_all is_apart rs ≡ true → (field w 0 7 == 0x23) ≡ false → (row : Row) →
    find (matches w) rs ≡ Some row → store_width row.op ≡ None
no_width w [] all other row is = cc
no_width w (r ∷ rs) all other row is =
    let parts = and_parts (is_apart r) (list_all is_apart rs) all in
    let own = and_parts (field r.mask 0 7 == 127) ((field r.bits 0 7 == 0x23) || is_none (store_width r.op)) parts.0 in
    elim (cases_Bool (matches w r)) [
      | inl on ↦
          let opcode = same_opcode w r.mask r.bits (eqb-true _ _ on) own.0 in
          let found : Some r ≡ Some row = rw on at is in
          let same : r ≡ row = cc in
          let test : (field r.bits 0 7 == 0x23) ≡ false = ap (λ v. v == 0x23) (sym opcode) ∙ other in
          rw (← same) (by_row _ (store_width r.op) own.1 test)
      | inr off ↦ no_width w rs parts.1 other row (rw off at is)
    ]

-- what is no store stores nothing
no_span :
    (w : ℕ) (core : Core) (lines : Lines) → (field w 0 7 == 0x23) ≡ false →
    span_of (effect core (of_word w) lines) ≡ None
unfolding effect means matched_row
no_span w core lines other = by_found (find (matches w) table) (no_width w table is_apart-table other)
  where
    by_found :
        (found : Option Row) → ((row : Row) → found ≡ Some row → store_width row.op ≡ None) →
        span_of
        (effect core
        (option_map_or (λ i. Good i 4 w) (option_map (λ row. fields_by row.format row.op w) found) (Bad w)) lines)
        ≡ None
    by_found None none = refl
    by_found (Some row) none =
        let i = fields_by row.format row.op w in
        let width : store_width i.op ≡ None = ap store_width (op-fields_by row.format row.op w) ∙ none row refl in
        sym (span-by i.op core i 4 w lines) ∙ ap (option_and_then (aligned_span (address core i))) width

pub other_ends_none :
    (word : ℕ) (watch : List (Option ℕ)) → (field word 0 7 == 0x23) ≡ false → EndsNone watch (of_word word)
unfolding shared_effect
other_ends_none word watch other = λ memory core number lines below.
    rw (no_span word core lines other) refl
