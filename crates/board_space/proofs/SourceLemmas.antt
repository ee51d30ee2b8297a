-- Sets of sources, as the code makes them.
use Rattle.std.proofs.Common.{◌≡◌, ℕ, ◌+◌, ◌*◌, ◌%◌, ◌^◌, ◌<◌, ◌≤◌, ◌==◌, ◌||◌, Bool, true, false, bit_or}
use Rattle.std.proofs.Common.{inl, inr, refl, sym, ap, ◌∙◌, arith}
use Rattle.std.specs.Int.{w128}
use Rattle.std.proofs.Common.{List, length, take}
use Rattle.std.specs.Prelude.{slice_index_or}
use Rattle.std.specs.List.{list_any}
use Rattle.std.proofs.lemmas.List.Folds.{list_any_more}
use Rattle.std.proofs.lemmas.Bool.{cases_eq, eq-eqb, ne_eqb}
use Rattle.std.proofs.lemmas.Nat.Bits.{bit_at_set_same, bit_at_set_other}
use Rattle.plic.specs.Laws.{HasWhatPasses, SameSets}
use Rattle.plic.specs.Sources.{has, set_of}
use Rattle.plic.proofs.SetLemmas.{set_below-lt}

or_true : (a : Bool) → true ≡ (a || true)
or_true true = refl
or_true false = refl

or_false : (a : Bool) → a ≡ (a || false)
or_false true = refl
or_false false = refl

-- one wire more
pub more_wires :
    {W : Type 0} (test : W → Bool) (wires : List W) (i : ℕ) (d : W) (so_far now : Bool) → i < length wires →
    so_far ≡ list_any test (take i wires) → now ≡ (so_far || test (slice_index_or wires i d)) →
    now ≡ list_any test (take (i + 1) wires)
more_wires test wires i d so_far now within before more =
    more ∙ ap (λ b. b || test (slice_index_or wires i d)) before ∙ sym (list_any_more test wires i d within)

-- one source more
pub has_more :
    (set source s : ℕ) → source < 128 → s < 128 →
    has (bit_or set (1 * 2 ^ source % 2 ^ 128)) s ≡ (has set s || (source == s))
has_more set source s there below = elim (cases_eq s source) [
  | inl same ↦
      rw (same, bit_at_set_same w128 set source there, eq-eqb source source refl) (or_true (has set source))
  | inr other ↦
      let differs : (source == s) ≡ false = ne_eqb source s (λ is. other (sym is)) in
      rw (bit_at_set_other w128 set source there s other, differs) (or_false (has set s))
]

-- a source from 128 on is none
pub has_no_more :
    (set source s : ℕ) → 128 ≤ source → s < 128 → has set s ≡ (has set s || (source == s))
has_no_more set source s above below =
    let differs : (source == s) ≡ false = ne_eqb source s (λ is. omega (arith, is)) in
    rw differs (or_false (has set s))

-- a set that a test gives is the one set in which is what passes the test
pub set_of_test :
    HasWhatPasses → SameSets → (set : ℕ) (test : ℕ → Bool) → set < 2 ^ 128 →
    ((s : ℕ) → s < 128 → has set s ≡ test s) → set ≡ set_of test
set_of_test passes one set test fits same =
    one set (set_of test) fits (set_below-lt test 128) (λ s below. same s below ∙ sym (passes test s below))
