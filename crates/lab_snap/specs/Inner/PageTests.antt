-- Pages whose numbers rise, told page by page.
use Rattle.std.proofs.Common.{◌≡◌, ◌<◌, ◌≤◌, ℕ, suc, List, [], ◌∷◌, Bool, true, false, ltb, leb, not, ◌&&◌, refl}
use Rattle.std.proofs.Common.{sym, arith}
use Rattle.std.specs.List.{list_all}
use Rattle.std.proofs.lemmas.Bool.{and_parts, and_from, leb-true, ltb-true, le-leb, lt-ltb}
use Rattle.page_ram.specs.Pages.{is_zero}
use Rattle.lab_snap.specs.Inner.Pages.{is_next}
use Rattle.lab_snap.specs.Memory.{are_used}
use Rattle.lab_snap.specs.Rising.{rise_by}

pub all_weaker : {A : Type 0} (p q : A → Bool) → ((x : A) → p x ≡ true → q x ≡ true) → (xs : List A) →
    list_all p xs ≡ true → list_all q xs ≡ true
all_weaker p q more [] e = refl
all_weaker p q more (x ∷ xs) e =
    let parts = and_parts (p x) (list_all p xs) e in
    and_from (q x) (list_all q xs) (more x parts.0) (all_weaker p q more xs parts.1)

-- each page is the next one after the last
abbrev pub rise_from : ℕ → ℕ → List (ℕ × List ℕ) → Bool
rise_from low top [] = true
rise_from low top (page ∷ others) = is_next top low page && rise_from (suc page.0) top others

-- what a test of the next page says
pub record IsNext (top low : ℕ) (page : ℕ × List ℕ) : Type 0 where
  pub from_low : low ≤ page.0
  pub below_top : page.0 < top
  pub other : is_zero page.1 ≡ false

not_true : (b : Bool) → not b ≡ true → b ≡ false
not_true true e = absurd cc
not_true false e = refl

pub next_is : (top low : ℕ) (page : ℕ × List ℕ) → is_next top low page ≡ true → IsNext top low page
next_is top low page e =
    let h = and_parts (leb low page.0) (ltb page.0 top && not (is_zero page.1)) e in
    let k = and_parts (ltb page.0 top) (not (is_zero page.1)) h.1 in
    record { from_low = leb-true _ _ h.0; below_top = ltb-true _ _ k.0; other = not_true _ k.1 }

pub is_next_from : (top low : ℕ) (page : ℕ × List ℕ) → IsNext top low page → is_next top low page ≡ true
is_next_from top low page h = rw (le-leb low page.0 h.from_low, lt-ltb page.0 top h.below_top, h.other) refl

-- pages that rise from one number on rise from each lower one on
pub rise_lower : (low low' top : ℕ) (ps : List (ℕ × List ℕ)) → low' ≤ low → rise_from low top ps ≡ true →
    rise_from low' top ps ≡ true
rise_lower low low' top [] le e = refl
rise_lower low low' top (page ∷ others) le e =
    let h = and_parts (is_next top low page) (rise_from (suc page.0) top others) e in
    let n = next_is top low page h.0 in
    and_from (is_next top low' page) (rise_from (suc page.0) top others)
    (is_next_from top low' page
    (record { from_low = let l = n.from_low in omega arith; below_top = n.below_top; other = n.other })) h.1

-- all numbers are from low on
abbrev all_from : ℕ → List (ℕ × List ℕ) → Bool
all_from low ps = list_all (λ page. leb low page.0) ps

-- their numbers rise
abbrev rise : List (ℕ × List ℕ) → Bool
rise ps = rise_by (λ page later. ltb page.0 later.0) ps

abbrev used_page : ℕ → ℕ × List ℕ → Bool
used_page top page = ltb page.0 top && not (is_zero page.1)

into : (low top : ℕ) (ps : List (ℕ × List ℕ)) → all_from low ps ≡ true → list_all (used_page top) ps ≡ true →
    rise ps ≡ true → rise_from low top ps ≡ true
into low top [] from used up = refl
into low top (page ∷ others) from used up =
    let f = and_parts (leb low page.0) (all_from low others) from in
    let u = and_parts (used_page top page) (list_all (used_page top) others) used in
    let r = and_parts (list_all (λ later. ltb page.0 later.0) others) (rise others) up in
    let above = all_weaker (λ later. ltb page.0 later.0) (λ later. leb (suc page.0) later.0)
    (λ later e. le-leb _ _ (let l = ltb-true page.0 later.0 e in omega arith)) others r.0 in
    and_from (is_next top low page) (rise_from (suc page.0) top others)
    (and_from (leb low page.0) (used_page top page) f.0 u.0) (into (suc page.0) top others above u.1 r.1)

record Rises (low top : ℕ) (ps : List (ℕ × List ℕ)) : Type 0 where
  from : all_from low ps ≡ true
  used : list_all (used_page top) ps ≡ true
  up : rise ps ≡ true

out : (low top : ℕ) (ps : List (ℕ × List ℕ)) → rise_from low top ps ≡ true → Rises low top ps
out low top [] e = record { from = refl; used = refl; up = refl }
out low top (page ∷ others) e =
    let h = and_parts (is_next top low page) (rise_from (suc page.0) top others) e in
    let n = and_parts (leb low page.0) (used_page top page) h.0 in
    let o = out (suc page.0) top others h.1 in
    let lower = all_weaker (λ later. leb (suc page.0) later.0) (λ later. leb low later.0)
    (λ later e. le-leb _ _ (let l = leb-true (suc page.0) later.0 e in let k = leb-true low page.0 n.0 in omega arith))
    others o.from in
    let above = all_weaker (λ later. leb (suc page.0) later.0) (λ later. ltb page.0 later.0)
    (λ later e. lt-ltb _ _ (let l = leb-true (suc page.0) later.0 e in omega arith)) others o.from in
    record {
      from = and_from (leb low page.0) (all_from low others) n.0 lower;
      used = and_from (used_page top page) (list_all (used_page top) others) n.1 o.used;
      up = and_from (list_all (λ later. ltb page.0 later.0) others) (rise others) above o.up;
    }

all_from_0 : (ps : List (ℕ × List ℕ)) → all_from 0 ps ≡ true
all_from_0 [] = refl
all_from_0 (page ∷ others) =
    and_from (leb 0 page.0) (all_from 0 others) (le-leb 0 page.0 (omega arith)) (all_from_0 others)

same_test : (a b : Bool) → (a ≡ true → b ≡ true) → (b ≡ true → a ≡ true) → a ≡ b
same_test true b f g = sym (f refl)
same_test false true f g = g refl
same_test false false f g = refl

-- pages can be the used ones of a memory exactly where each is the next one after the last
pub are_used-rise : (n : ℕ) (ps : List (ℕ × List ℕ)) → are_used n ps ≡ rise_from 0 n ps
are_used-rise n ps =
    same_test (are_used n ps) (rise_from 0 n ps)
    (λ e. let h = and_parts (list_all (used_page n) ps) (rise ps) e in into 0 n ps (all_from_0 ps) h.0 h.1)
    (λ e. let h = out 0 n ps e in and_from (list_all (used_page n) ps) (rise ps) h.used h.up)
