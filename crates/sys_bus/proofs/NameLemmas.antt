-- Names of processors, entry by entry.
use Rattle.std.proofs.Common.{◌≡◌, ◌∙◌, ℕ, ◌+◌, ◌<◌, List, [], ◌∷◌, length, drop, get_or, true, false, refl}
use Rattle.std.proofs.Common.{sym, ap, subst, slice_index_or}
use Rattle.std.proofs.Math.Nat.{suc-ne-zero}
use Rattle.std.proofs.Math.Numerals.{suc-eq-add-one}
use Rattle.std.proofs.Math.Seq.{drop-cons, drop-length}
use Rattle.sys_bus.specs.declared.plan.Named.{Named}
use Rattle.sys_bus.specs.Name.{is_processor, processors}

-- an entry that is a processor's, and one that is not
first_is : (n : Named) (rest : List Named) → is_processor n.what ≡ true →
    processors (n ∷ rest) ≡ n.name ∷ processors rest
first_is n rest is = rw (is) refl

first_is_not : (n : Named) (rest : List Named) → is_processor n.what ≡ false →
    processors (n ∷ rest) ≡ processors rest
first_is_not n rest is = rw (is) refl

from : (names : List Named) (j : ℕ) (n : Named) → j < length names → n ≡ slice_index_or names j n →
    drop j names ≡ n ∷ drop (j + 1) names
from names j n within at =
    subst (λ (k : ℕ). drop j names ≡ get_or names j n ∷ drop k names) (suc-eq-add-one j) (drop-cons names j n within)
    ∙ ap (λ (x : Named). x ∷ drop (j + 1) names) (sym at)

pub one_more : (names : List Named) (j : ℕ) (n : Named) → j < length names → n ≡ slice_index_or names j n →
    is_processor n.what ≡ true → processors (drop j names) ≡ n.name ∷ processors (drop (j + 1) names)
one_more names j n within at is = ap processors (from names j n within at) ∙ first_is n (drop (j + 1) names) is

pub no_more : (names : List Named) (j : ℕ) (n : Named) → j < length names → n ≡ slice_index_or names j n →
    is_processor n.what ≡ false → processors (drop j names) ≡ processors (drop (j + 1) names)
no_more names j n within at is = ap processors (from names j n within at) ∙ first_is_not n (drop (j + 1) names) is

pub at_end : (names : List Named) → processors (drop (length names) names) ≡ []
at_end names = ap processors (drop-length names)

-- names are none, and are the processors', where they are counted as none
pub are_none : (cpus rest : List (List ℕ)) (names : List Named) →
    ((cpus ≡ processors names → rest ≡ []) × (rest ≡ [] → cpus ≡ processors names)) →
    (length rest ≡ 0 → cpus ≡ processors names) × (cpus ≡ processors names → length rest ≡ 0)
are_none cpus [] names same = (λ none. same.1 refl, λ is. refl)
are_none cpus (word ∷ rest) names same = (λ none. absurd (suc-ne-zero (length rest) none), λ is. ap length (same.0 is))
