-- A memory is what its used pages say.
use Rattle.std.proofs.Common.{◌≡◌, ◌<◌, ◌≤◌, ◌+◌, ◌*◌, ◌^◌, ℕ, zero, suc, List, [], ◌∷◌, ◌++◌, length, take, drop}
use Rattle.std.proofs.Common.{Bool, true, false, cond, eqb, refl, sym, ap, subst, ◌∙◌, arith}
use Rattle.std.specs.List.{AllByRecursion}
use Rattle.std.proofs.lemmas.Bool.{and_parts, and_from, eqb-true, eq-eqb}
use Rattle.std.proofs.lemmas.List.{take_at, drop_at, take-append-drop, length-append, length-take, length-drop}
use Rattle.std.proofs.lemmas.List.{length-replicate, replicate-append-replicate, nil_from_length}
use Rattle.std.proofs.Math.Nat.{mul-suc, mul-zero}
use Rattle.page_ram.specs.Bytes.{zeros}
use Rattle.page_ram.specs.Pages.{is_zero}
use Rattle.lab_encoding.specs.Form.{IsLawful}
use Rattle.lab_encoding.specs.Inner.Laws.{bytes_lawful, list_lawful, next_lawful, number_lawful, only_lawful}
use Rattle.lab_encoding.specs.Inner.Laws.{shown_lawful}
use Rattle.lab_snap.specs.Inner.Pages.{is_next}
use Rattle.lab_snap.specs.Page.{page_form}
use Rattle.lab_snap.specs.Memory.{IsMemory, are_used, memory_form, memory_of, page_at, pages, pages_form, pages_from}
use Rattle.lab_snap.specs.Memory.{used, used_pages}
use Rattle.lab_snap.specs.Inner.PageTests.{IsNext, are_used-rise, is_next_from, next_is, rise_from, rise_lower}

page_lawful : (s : ℕ) → IsLawful (page_form s)
page_lawful s = next_lawful (number_lawful 4) (bytes_lawful s)

-- ---- bytes

pub is_zero-zeros : (n : ℕ) → is_zero (zeros n) ≡ true
is_zero-zeros zero = refl
is_zero-zeros (suc n) = is_zero-zeros n

pub zeros-is_zero : (page : List ℕ) → is_zero page ≡ true → page ≡ zeros (length page)
zeros-is_zero [] e = refl
zeros-is_zero (b ∷ page) e =
    let h = and_parts (eqb b 0) (is_zero page) e in
    let first : b ≡ 0 = eqb-true b 0 h.0 in
    let others = zeros-is_zero page h.1 in
    cc

pub zeros_more : (s r : ℕ) → zeros (s * suc r) ≡ zeros s ++ zeros (s * r)
zeros_more s r =
    let e : s * suc r ≡ s + s * r = rw (mul-suc s r) (omega arith) in
    ap zeros e ∙ sym (replicate-append-replicate s (s * r) 0)

all_zeros : (n : ℕ) → AllByRecursion (λ b. b < 256) (zeros n)
all_zeros zero = tt
all_zeros (suc n) = (omega arith, all_zeros n)

pub zeros_are_bytes : (page : List ℕ) → is_zero page ≡ true → AllByRecursion (λ b. b < 256) page
zeros_are_bytes page e = subst (AllByRecursion (λ b. b < 256)) (sym (zeros-is_zero page e)) (all_zeros (length page))

pub all_append : (xs ys : List ℕ) → AllByRecursion (λ b. b < 256) xs → AllByRecursion (λ b. b < 256) ys →
    AllByRecursion (λ b. b < 256) (xs ++ ys)
all_append [] ys p q = q
all_append (x ∷ xs) ys p q = (p.0, all_append xs ys p.1 q)

all_parts : (xs ys : List ℕ) → AllByRecursion (λ b. b < 256) (xs ++ ys) →
    AllByRecursion (λ b. b < 256) xs × AllByRecursion (λ b. b < 256) ys
all_parts [] ys p = (tt, p)
all_parts (x ∷ xs) ys p = let h = all_parts xs ys p.1 in ((p.0, h.0), h.1)

-- ---- the first page of a memory, and the others

record Parts (s n : ℕ) (m : List ℕ) : Type 0 where
  size : length (take s m) ≡ s
  page : AllByRecursion (λ b. b < 256) (take s m)
  others : IsMemory s n (drop s m)

parts_of : (s n : ℕ) (m : List ℕ) → IsMemory s (suc n) m → Parts s n m
parts_of s n m is =
    let more = mul-suc s n in
    let len = is.0 in
    let bytes =
    all_parts (take s m) (drop s m) (subst (AllByRecursion (λ b. b < 256)) (sym (take-append-drop s m)) is.1) in
    record {
      size = omega (arith, length-take s m, len, more);
      page = bytes.0;
      others = (omega (arith, length-drop s m, len, more), bytes.1);
    }

-- a page of zeros is passed over
passed : (s n k : ℕ) (m : List ℕ) →
    used_pages k (pages s (suc n) (zeros s ++ m)) ≡ used_pages (suc k) (pages s n m)
unfolding used_pages pages
passed s n k m =
    let len : length (zeros s) ≡ s = length-replicate s 0 in
    rw (take_at (zeros s) m s len, drop_at (zeros s) m s len, is_zero-zeros s) refl

-- a page that has another byte is listed
listed : (s n k : ℕ) (page m : List ℕ) → length page ≡ s → is_zero page ≡ false →
    used_pages k (pages s (suc n) (page ++ m)) ≡ (k, page) ∷ used_pages (suc k) (pages s n m)
unfolding used_pages pages
listed s n k page m len other = rw (take_at page m s len, drop_at page m s len, other) refl

-- ---- what is listed of a memory

length-used_pages : (s n k : ℕ) (m : List ℕ) → length (used_pages k (pages s n m)) ≤ n
unfolding used_pages pages
length-used_pages s zero k m = omega arith
length-used_pages s (suc n) k m =
    by_test (is_zero (take s m)) (used_pages (suc k) (pages s n (drop s m))) (length-used_pages s n (suc k) (drop s m))
  where
    by_test : (b : Bool) (others : List (ℕ × List ℕ)) → length others ≤ n →
        length (cond b others ((k, take s m) ∷ others)) ≤ suc n
    by_test true others h = omega arith
    by_test false others h = omega arith

used_rise : (s n k top : ℕ) (m : List ℕ) → k + n ≡ top → rise_from k top (used_pages k (pages s n m)) ≡ true
unfolding used_pages pages
used_rise s zero k top m all = refl
used_rise s (suc n) k top m all =
    by_test (is_zero (take s m)) refl (used_pages (suc k) (pages s n (drop s m)))
    (used_rise s n (suc k) top (drop s m) (omega arith))
  where
    by_test : (b : Bool) → is_zero (take s m) ≡ b → (others : List (ℕ × List ℕ)) →
        rise_from (suc k) top others ≡ true → rise_from k top (cond b others ((k, take s m) ∷ others)) ≡ true
    by_test true h others up = rise_lower (suc k) k top others (omega arith) up
    by_test false h others up =
        and_from (is_next top k (k, take s m)) (rise_from (suc k) top others)
        (is_next_from top k (k, take s m) (record { from_low = omega arith; below_top = omega arith; other = h })) up

used_fit : (s n k : ℕ) (m : List ℕ) → k + n < 256 ^ 4 → IsMemory s n m →
    AllByRecursion (page_form s).Fits (used_pages k (pages s n m))
unfolding used_pages pages
used_fit s zero k m small is = tt
used_fit s (suc n) k m small is =
    let parts = parts_of s n m is in
    by_test parts (is_zero (take s m)) (used_pages (suc k) (pages s n (drop s m)))
    (used_fit s n (suc k) (drop s m) (omega arith) parts.others)
  where
    by_test : Parts s n m → (b : Bool) (others : List (ℕ × List ℕ)) → AllByRecursion (page_form s).Fits others →
        AllByRecursion (page_form s).Fits (cond b others ((k, take s m) ∷ others))
    by_test parts true others fit = fit
    by_test parts false others fit = ((omega arith, (parts.size, parts.page)), fit)

-- ---- a page among others

-- no page stands below the first number
pub page_past : (s k low top : ℕ) (ps : List (ℕ × List ℕ)) → k < low → rise_from low top ps ≡ true →
    page_at s k ps ≡ zeros s
unfolding page_at
page_past s k low top [] below up = refl
page_past s k low top (page ∷ others) below up =
    let h = and_parts (is_next top low page) (rise_from (suc page.0) top others) up in
    let from_low = (next_is top low page h.0).from_low in
    let apart : eqb page.0 k ≡ false = grind arith in
    rw apart (page_past s k (suc page.0) top others (omega arith) h.1)

page_here : (s k : ℕ) (page : List ℕ) (others : List (ℕ × List ℕ)) → page_at s k ((k, page) ∷ others) ≡ page
unfolding page_at
page_here s k page others = rw (eq-eqb k k refl) refl

page_other : (s k : ℕ) (page : ℕ × List ℕ) (others : List (ℕ × List ℕ)) → eqb page.0 k ≡ false →
    page_at s k (page ∷ others) ≡ page_at s k others
unfolding page_at
page_other s k page others apart = rw apart refl

-- a page below is not among those from one on
pub past_page : (s k count : ℕ) (page : ℕ × List ℕ) (others : List (ℕ × List ℕ)) → page.0 < k →
    pages_from s k count (page ∷ others) ≡ pages_from s k count others
unfolding pages_from
past_page s k zero page others below = refl
past_page s k (suc count) page others below =
    let apart : eqb page.0 k ≡ false = grind arith in
    rw (page_other s k page others apart, past_page s (suc k) count page others (omega arith)) refl

-- where the first page has the first number, and where it does not
pub pages_here : (s k count : ℕ) (page : List ℕ) (others : List (ℕ × List ℕ)) →
    pages_from s k (suc count) ((k, page) ∷ others) ≡ page ++ pages_from s (suc k) count others
unfolding pages_from
pages_here s k count page others =
    rw (page_here s k page others, past_page s (suc k) count (k, page) others (omega arith)) refl

pub pages_later : (s k count top : ℕ) (ps : List (ℕ × List ℕ)) → rise_from (suc k) top ps ≡ true →
    pages_from s k (suc count) ps ≡ zeros s ++ pages_from s (suc k) count ps
unfolding pages_from
pages_later s k count top ps up = rw (page_past s k (suc k) top ps (omega arith) up) refl

-- pages from a number on, of which the first has it or a later one
pub record Splits (k top : ℕ) (page : ℕ × List ℕ) (others : List (ℕ × List ℕ)) : Type 0 where
  pub next : IsNext top k page
  pub rest : rise_from (suc page.0) top others ≡ true
  pub later : eqb page.0 k ≡ false → rise_from (suc k) top (page ∷ others) ≡ true

pub split : (k top : ℕ) (page : ℕ × List ℕ) (others : List (ℕ × List ℕ)) → rise_from k top (page ∷ others) ≡ true →
    Splits k top page others
split k top page others up =
    let h = and_parts (is_next top k page) (rise_from (suc page.0) top others) up in
    let n = next_is top k page h.0 in
    let from_low = n.from_low in
    record {
      next = n;
      rest = h.1;
      later = λ apart. and_from (is_next top (suc k) page) (rise_from (suc page.0) top others)
          (is_next_from top (suc k) page
          (record { from_low = grind arith; below_top = n.below_top; other = n.other })) h.1;
    }

-- ---- there and back

pages_of_used : (s n k : ℕ) (m : List ℕ) → IsMemory s n m → pages_from s k n (used_pages k (pages s n m)) ≡ m
unfolding used_pages pages pages_from
pages_of_used s zero k m is = sym (nil_from_length m (is.0 ∙ mul-zero s))
pages_of_used s (suc n) k m is =
    let parts = parts_of s n m is in
    by_test parts (is_zero (take s m)) refl (used_pages (suc k) (pages s n (drop s m)))
    (used_rise s n (suc k) (suc k + n) (drop s m) refl) (pages_of_used s n (suc k) (drop s m) parts.others)
    ∙ take-append-drop s m
  where
    by_test : Parts s n m → (b : Bool) → is_zero (take s m) ≡ b → (others : List (ℕ × List ℕ)) →
        rise_from (suc k) (suc k + n) others ≡ true → pages_from s (suc k) n others ≡ drop s m →
        pages_from s k (suc n) (cond b others ((k, take s m) ∷ others)) ≡ take s m ++ drop s m
    by_test parts true h others up rest =
        let page : zeros s ≡ take s m = sym (zeros-is_zero (take s m) h ∙ ap zeros parts.size) in
        pages_later s k n (suc k + n) others up ∙ rw (page, rest) refl
    by_test parts false h others up rest = pages_here s k n (take s m) others ∙ rw rest refl

-- each page is of the size of one
sized : (s : ℕ) (ps : List (ℕ × List ℕ)) → AllByRecursion (page_form s).Fits ps →
    AllByRecursion (λ (page : ℕ × List ℕ). length page.1 ≡ s) ps
sized s [] fit = tt
sized s (page ∷ others) fit = (fit.0.1.0, sized s others fit.1)

used_of_pages : (s n k top : ℕ) (ps : List (ℕ × List ℕ)) → k + n ≡ top → rise_from k top ps ≡ true →
    AllByRecursion (λ (page : ℕ × List ℕ). length page.1 ≡ s) ps → used_pages k (pages s n (pages_from s k n ps)) ≡ ps
unfolding used_pages pages pages_from
used_of_pages s zero k top [] all up sizes = refl
used_of_pages s zero k top (page ∷ others) all up sizes =
    let next = (split k top page others up).next in
    let low = next.from_low in
    let high = next.below_top in
    absurd (omega arith)
used_of_pages s (suc n) k top [] all up sizes =
    ap (λ (m : List ℕ). used_pages k (pages s (suc n) m)) (pages_later s k n top [] refl)
    ∙ passed s n k (pages_from s (suc k) n []) ∙ used_of_pages s n (suc k) top [] (omega arith) refl tt
used_of_pages s (suc n) k top (page ∷ others) all up sizes =
    by_test (eqb page.0 k) refl (split k top page others up)
    (λ ps up' sizes'. used_of_pages s n (suc k) top ps (omega arith) up' sizes')
  where
    by_test : (b : Bool) → eqb page.0 k ≡ b → Splits k top page others →
        ((ps : List (ℕ × List ℕ)) → rise_from (suc k) top ps ≡ true →
        AllByRecursion (λ (page : ℕ × List ℕ). length page.1 ≡ s) ps →
        used_pages (suc k) (pages s n (pages_from s (suc k) n ps)) ≡ ps) →
        used_pages k (pages s (suc n) (pages_from s k (suc n) (page ∷ others))) ≡ page ∷ others
    by_test true h parts again =
        let is : page.0 ≡ k = eqb-true page.0 k h in
        let here : pages_from s k (suc n) (page ∷ others) ≡ page.1 ++ pages_from s (suc k) n others =
        subst (λ (q : ℕ). pages_from s k (suc n) ((q, page.1) ∷ others) ≡ page.1 ++ pages_from s (suc k) n others)
        (sym is) (pages_here s k n page.1 others) in
        let rest = again others (subst (λ (q : ℕ). rise_from (suc q) top others ≡ true) is parts.rest) sizes.1 in
        ap (λ (m : List ℕ). used_pages k (pages s (suc n) m)) here
        ∙ listed s n k page.1 (pages_from s (suc k) n others) sizes.0 parts.next.other
        ∙ ap (λ (ps : List (ℕ × List ℕ)). (k, page.1) ∷ ps) rest
        ∙ ap (λ (q : ℕ). (q, page.1) ∷ others) (sym is)
    by_test false h parts again =
        let up' = parts.later h in
        ap (λ (m : List ℕ). used_pages k (pages s (suc n) m)) (pages_later s k n top (page ∷ others) up')
        ∙ passed s n k (pages_from s (suc k) n (page ∷ others))
        ∙ again (page ∷ others) up' sizes

page_at_is : (s k : ℕ) (ps : List (ℕ × List ℕ)) → AllByRecursion (page_form s).Fits ps →
    (length (page_at s k ps) ≡ s) × AllByRecursion (λ b. b < 256) (page_at s k ps)
unfolding page_at
page_at_is s k [] fit = (length-replicate s 0, all_zeros s)
page_at_is s k (page ∷ others) fit = by_test (eqb page.0 k) (page_at_is s k others fit.1)
  where
    by_test : (b : Bool) → (length (page_at s k others) ≡ s) × AllByRecursion (λ b. b < 256) (page_at s k others) →
        (length (cond b page.1 (page_at s k others)) ≡ s)
        × AllByRecursion (λ b. b < 256) (cond b page.1 (page_at s k others))
    by_test true rest = fit.0.1
    by_test false rest = rest

pages_are : (s k n : ℕ) (ps : List (ℕ × List ℕ)) → AllByRecursion (page_form s).Fits ps →
    IsMemory s n (pages_from s k n ps)
unfolding pages_from
pages_are s k zero ps fit = (sym (mul-zero s), tt)
pages_are s k (suc n) ps fit =
    let first = page_at_is s k ps fit in
    let rest = pages_are s (suc k) n ps fit in
    let page_len = first.0 in
    let rest_len = rest.0 in
    let more = mul-suc s n in (
      omega (arith, length-append (page_at s k ps) (pages_from s (suc k) n ps), page_len, rest_len, more),
      all_append (page_at s k ps) (pages_from s (suc k) n ps) first.1 rest.1,
    )

pub pages_lawful : (s n : ℕ) → n < 256 ^ 4 → IsLawful (pages_form s n)
pages_lawful s n small =
    shown_lawful (IsMemory s n) (used s n) (memory_of s n)
    (λ m is. let few = length-used_pages s n 0 m in
    let up = used_rise s n 0 n m (omega arith) in (
      (omega arith, used_fit s n 0 m (omega arith) is),
      are_used-rise n (used s n m) ∙ up,
    ))
    (λ m is. pages_of_used s n 0 m is)
    (λ ps fit. pages_are s 0 n ps fit.0.1)
    (λ ps fit. used_of_pages s n 0 n ps (omega arith) (sym (are_used-rise n ps) ∙ fit.1) (sized s ps fit.0.1))
    (only_lawful (are_used n) (list_lawful (page_lawful s)))

pub memory_lawful : (n : ℕ) → n ≤ 16384 → IsLawful (memory_form n)
memory_lawful n few = pages_lawful 4096 n (omega arith)
