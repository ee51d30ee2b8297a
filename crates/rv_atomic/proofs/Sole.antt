-- No word matches two rows of the table.
use Rattle.std.proofs.Common.{◌≡◌, ℕ, ◌≤◌, Bool, true, false, not, ◌==◌, refl, ap}
use Rattle.std.specs.Prelude.{bit_and, count_by}
use Rattle.std.proofs.lemmas.Bool.{eqb-true, eq-eqb}
use Rattle.rv_decode.proofs.Apart.{all_apart, at_most_one, masks_agree}
use Rattle.rv_atomic.specs.Table.{Row, matches, table}

-- two rows differ in a bit that both fix
abbrev is_apart : Row → Row → Bool
is_apart r s = not (bit_and r.bits s.mask == bit_and s.bits r.mask)

-- two rows that a word matches are not apart
is_apart-matched : (w : ℕ) (r s : Row) → matches w r ≡ true → matches w s ≡ true → is_apart r s ≡ false
is_apart-matched w r s p q =
    ap not (eq-eqb _ _ (masks_agree w r.mask s.mask r.bits s.bits (eqb-true _ _ p) (eqb-true _ _ q)))

-- computed over all pairs of rows
all_apart-table : all_apart is_apart table ≡ true
all_apart-table = refl

pub sole_row : (w : ℕ) → count_by (matches w) table ≤ 1
sole_row w = at_most_one is_apart (matches w) (is_apart-matched w) table all_apart-table
