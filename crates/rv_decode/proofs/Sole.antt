-- No word matches two rows of the table.
use Rattle.std.proofs.Common.{◌≡◌, ℕ, zero, suc, ◌<◌, ◌≤◌, length, Bool, true, false, not, ◌==◌, refl, ap, List}
use Rattle.std.proofs.Common.{[], ◌∷◌, arith}
use Rattle.std.specs.Prelude.{bit_and, count_by, find, Contains, slice_index_or, Some}
use Rattle.std.specs.List.{list_all}
use Rattle.std.proofs.lemmas.Bool.{eqb-true, eq-eqb, and_parts, false_from_ne_true, both_ways}
use Rattle.rv_decode.proofs.Apart.{all_apart, at_most_one, masks_agree}
use Rattle.rv_decode.proofs.Tests.{holds-row}
use Rattle.rv_decode.specs.Table.{Row, matches, matched_row, table}

-- two rows differ in a bit that both fix
abbrev is_apart : Row → Row → Bool
is_apart r s = not (bit_and r.bits s.mask == bit_and s.bits r.mask)

-- two rows that a word matches are not apart
is_apart-matched : (w : ℕ) (r s : Row) → matches w r ≡ true → matches w s ≡ true → is_apart r s ≡ false
is_apart-matched w r s p q =
    ap not (eq-eqb _ _ (masks_agree w r.mask s.mask r.bits s.bits (eqb-true _ _ p) (eqb-true _ _ q)))

-- computed over all pairs of rows
all_apart-table : all_apart is_apart table ≡ true
all_apart-table = refl

pub sole_row : (w : ℕ) → count_by (matches w) table ≤ 1
sole_row w = at_most_one is_apart (matches w) (is_apart-matched w) table all_apart-table

-- of rows that are apart, the one that the word matches is found
found_at :
    (w : ℕ) (r : Row) (rs : List Row) (k : ℕ) → all_apart is_apart rs ≡ true →
    k < length rs → slice_index_or rs k r ≡ r → matches w r ≡ true → find (matches w) rs ≡ Some r
found_at w r [] k apart below is matched = absurd (omega (arith, below))
found_at w r (s ∷ rs) zero apart below is matched =
    let here : matches w s ≡ true = rw is matched in
    rw here (ap Some is)
found_at w r (s ∷ rs) (suc k) apart below is matched =
    let parts = and_parts (list_all (is_apart s) rs) (all_apart is_apart rs) apart in
    let inside : k < length rs = omega (arith, below) in
    let far = holds-row (is_apart s) rs r parts.0 (k, inside, is) in
    let off =
    false_from_ne_true (matches w s) (λ q. both_ways (is_apart s r) (is_apart-matched w s r q matched) far) in
    rw off (found_at w r rs k parts.1 inside is matched)

pub matched_row-is :
    (w : ℕ) (r : Row) → Contains table r → matches w r ≡ true → matched_row w ≡ Some r
unfolding matched_row
matched_row-is w r there matched = found_at w r table there.0 all_apart-table there.1 there.2 matched
