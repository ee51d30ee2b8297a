-- The loops over the pages of a memory.
use Rattle.std.proofs.Common.{◌≡◌, ◌<◌, ◌≤◌, ◌+◌, ◌*◌, ◌-◌, ℕ, zero, suc, List, [], ◌∷◌, ◌++◌, length, take, drop}
use Rattle.std.proofs.Common.{Option}
use Rattle.std.proofs.Common.{Some, None, Bool, true, false, cond, eqb, ltb, refl, sym, ap, subst, ◌∙◌, append_assoc}
use Rattle.std.proofs.Common.{add-one, arith, ◌⊎◌, inl, inr}
use Rattle.std.specs.Prelude.{Err, if◌then◌else◌}
use Rattle.std.specs.List.{flat_map, AllByRecursion}
use Rattle.std.proofs.lemmas.Bool.{eqb-true, le-ltb, lt-ltb, ltb-false}
use Rattle.std.proofs.lemmas.List.{drop-drop, drop_at, length-append, length-replicate, length-take, take_at}
use Rattle.std.proofs.lemmas.Option.{none-some, same_Some}
use Rattle.std.proofs.Math.Nat.{mul-suc, mul-zero, mul-add, mul-one}
use Rattle.std.proofs.Math.Seq.{take-add}
use Rattle.page_ram.specs.Bytes.{put_bytes, zeros}
use Rattle.page_ram.specs.Pages.{is_zero}
use Rattle.lab_encoding.specs.declared.fault.SnapFault.{SnapFault}
use Rattle.lab_encoding.specs.declared.fault.SnapFault.TheVariants.{Bad, Memory}
use Rattle.lab_encoding.specs.Combine.{◌>>=◌, bytes, number, parse_times}
use Rattle.lab_encoding.specs.Inner.Laws.{bind_some, chosen}
use Rattle.lab_encoding.specs.Reads.{Reads}
use Rattle.lab_snap.specs.Inner.Pages.{is_next, memory_read, spell_used}
use Rattle.lab_snap.specs.Inner.ReadsInto.{ReadsInto}
use Rattle.lab_snap.specs.Memory.{are_used, memory_of, pages, pages_form, pages_from, used, used_pages}
use Rattle.lab_snap.specs.Page.{page_form}
use Rattle.lab_snap.specs.Inner.MemoryLaws.{all_append, pages_here, pages_later, split, zeros_more, Splits}
use Rattle.lab_snap.specs.Inner.PageTests.{are_used-rise, rise_from}

-- ---- writing

-- the pages from k on that are used
abbrev pub left : ℕ → ℕ → ℕ → List ℕ → List (ℕ × List ℕ)
left s n k m = used_pages k (pages s (n - k) (drop (s * k) m))

next_place : (s k : ℕ) (m : List ℕ) → drop s (drop (s * k) m) ≡ drop (s * (k + 1)) m
next_place s k m = drop-drop s (s * k) m ∙ ap (λ n. drop n m) (sym (mul-suc s k) ∙ ap (λ n. s * n) (sym (add-one k)))

pub left_zero : (s n k : ℕ) (m : List ℕ) → k < n → is_zero (take s (drop (s * k) m)) ≡ true →
    left s n k m ≡ left s n (k + 1) m
unfolding used_pages pages
left_zero s n k m lt h =
    let e : n - k ≡ suc (n - (k + 1)) = omega arith in
    rw (e, h, next_place s k m, add-one k) refl

pub left_used : (s n k : ℕ) (m : List ℕ) → k < n → is_zero (take s (drop (s * k) m)) ≡ false →
    left s n k m ≡ (k, take s (drop (s * k) m)) ∷ left s n (k + 1) m
unfolding used_pages pages
left_used s n k m lt h =
    let e : n - k ≡ suc (n - (k + 1)) = omega arith in
    rw (e, h, next_place s k m, add-one k) refl

pub left_none : (s n k : ℕ) (m : List ℕ) → n ≤ k → left s n k m ≡ []
unfolding used_pages pages
left_none s n k m le = let e : n - k ≡ 0 = omega arith in rw e refl

pub ruleset left_lemmas = (left_zero, left_used, left_none)

-- the spelling of the pages from k on is that of the page k, and that of the pages after it
pub left_spelled : (s n k : ℕ) (m : List ℕ) → k < n →
    flat_map (page_form s).spell (left s n k m)
    ≡ spell_used s k (take s (drop (s * k) m)) ++ flat_map (page_form s).spell (left s n (k + 1) m)
left_spelled s n k m lt = by_test (is_zero (take s (drop (s * k) m))) refl
  where
    by_test : (b : Bool) → is_zero (take s (drop (s * k) m)) ≡ b →
        flat_map (page_form s).spell (left s n k m)
        ≡ spell_used s k (take s (drop (s * k) m)) ++ flat_map (page_form s).spell (left s n (k + 1) m)
    by_test true h = rw (left_zero s n k m lt h, h) refl
    by_test false h = rw (left_used s n k m lt h, h) refl

pub left_all : (s n : ℕ) (m : List ℕ) → left s n 0 m ≡ used s n m
left_all s n m = let e : n - 0 ≡ n = omega arith in rw (e, mul-zero s) refl

-- the bytes of one page more
pub bytes_more : (s k : ℕ) (m : List ℕ) → AllByRecursion (λ b. b < 256) (take (s * k) m) →
    AllByRecursion (λ b. b < 256) (take s (drop (s * k) m)) → AllByRecursion (λ b. b < 256) (take (s * (k + 1)) m)
bytes_more s k m front page =
    let next : s * (k + 1) ≡ s * k + s = mul-add s k 1 ∙ ap (λ (n : ℕ). s * k + n) (mul-one s) in
    rw (next, take-add (s * k) s m) (all_append (take (s * k) m) (take s (drop (s * k) m)) front page)

-- ---- reading a page

pub page_read : (s q : ℕ) (text after : List ℕ) → (number 4).parse text ≡ Some (q, after) → s ≤ length after →
    (page_form s).parse text ≡ Some ((q, take s after), drop s after)
page_read s q text after read long = rw (read, le-ltb (length after) s long) refl

pub page_short : (s q : ℕ) (text after : List ℕ) → (number 4).parse text ≡ Some (q, after) → length after < s →
    (page_form s).parse text ≡ None
page_short s q text after read short = let h : ltb (length after) s ≡ true =
    lt-ltb (length after) s short in rw (read, h) refl

pub no_page : (s : ℕ) (text : List ℕ) → (number 4).parse text ≡ None → (page_form s).parse text ≡ None
no_page s text read = rw read refl

-- ---- reading pages one after the other

-- so many pages from low on, put into a memory of top pages
unfoldable pub load_pages : ℕ → ℕ → ℕ → ℕ → List ℕ → List ℕ → Option (List ℕ × List ℕ)
load_pages s top low zero text m = Some (m, text)
load_pages s top low (suc count) text m = (page_form s).parse text >>= λ p.
    if is_next top low p.0 then load_pages s top (suc p.0.0) count p.1 (put_bytes m (s * p.0.0) p.0.1) else None

-- what is still loaded is what is loaded in all
abbrev pub IsHalfLoaded : (s top count : ℕ) (text m : List ℕ) (low i : ℕ) (rest now : List ℕ) → Type 0
IsHalfLoaded s top count text m low i rest now =
    load_pages s top low (count - i) rest now ≡ load_pages s top 0 count text m

pub half_loaded_none : (s top count : ℕ) (text m : List ℕ) → IsHalfLoaded s top count text m 0 0 text m
half_loaded_none s top count text m = let e : count - 0 ≡ count = omega arith in rw e refl

pub half_loaded_more : (s top count : ℕ) (text m : List ℕ) (low i : ℕ) (rest now : List ℕ) (q : ℕ)
    (page after : List ℕ) → i < count → (page_form s).parse rest ≡ Some ((q, page), after)
    → is_next top low (q, page) ≡ true → IsHalfLoaded s top count text m low i rest now →
    IsHalfLoaded s top count text m (q + 1) (i + 1) after (put_bytes now (s * q) page)
unfolding load_pages
half_loaded_more s top count text m low i rest now q page after lt read next so_far =
    let k : count - i ≡ suc (count - (i + 1)) = omega arith in
    let one : load_pages s top low (count - i) rest now ≡ load_pages s top (q + 1) (count - (i + 1)) after
    (put_bytes now (s * q) page) = rw (k, read, next, add-one q) refl in
    sym one ∙ so_far

-- ---- all pages that were read, and the memory that has them

-- pages put into a memory
abbrev put_all : ℕ → List ℕ → List (ℕ × List ℕ) → List ℕ
put_all s m [] = m
put_all s m (page ∷ others) = put_all s (put_bytes m (s * page.0) page.1) others

abbrev if_rise : ℕ → ℕ → ℕ → List ℕ → List (ℕ × List ℕ) × List ℕ → Option (List ℕ × List ℕ)
if_rise s top low m ps = if rise_from low top ps.0 then Some (put_all s m ps.0, ps.1) else None

-- pages are loaded one by one where all can be read and rise
loaded : (s top low count : ℕ) (text m : List ℕ) →
    load_pages s top low count text m ≡ (parse_times (page_form s) count text >>= if_rise s top low m)
unfolding load_pages parse_times
loaded s top low zero text m = refl
loaded s top low (suc count) text m =
    by_page ((page_form s).parse text)
    (λ page after. loaded s top (suc page.0) count after (put_bytes m (s * page.0) page.1))
  where
    load_more : ℕ × List ℕ → List ℕ → Bool → Option (List ℕ × List ℕ)
    load_more page after b = cond b (load_pages s top (suc page.0) count after (put_bytes m (s * page.0) page.1)) None

    joined : (page : ℕ × List ℕ) (after : List ℕ) (b : Bool) → is_next top low page ≡ b →
        (read : Option (List (ℕ × List ℕ) × List ℕ)) →
        cond b (read >>= if_rise s top (suc page.0) (put_bytes m (s * page.0) page.1)) None
        ≡ ((read >>= λ others. Some (page ∷ others.0, others.1)) >>= if_rise s top low m)
    joined page after true h None = refl
    joined page after true h (Some ps) = rw h refl
    joined page after false h None = refl
    joined page after false h (Some ps) = rw h refl

    by_page : (read : Option ((ℕ × List ℕ) × List ℕ)) →
        ((page : ℕ × List ℕ) (after : List ℕ) →
        load_pages s top (suc page.0) count after (put_bytes m (s * page.0) page.1)
        ≡ (parse_times (page_form s) count after >>= if_rise s top (suc page.0) (put_bytes m (s * page.0) page.1))) →
        (read >>= λ p. load_more p.0 p.1 (is_next top low p.0))
        ≡ ((read >>= λ a. parse_times (page_form s) count a.1 >>= λ others. Some (a.0 ∷ others.0, others.1))
        >>= if_rise s top low m)
    by_page None again = refl
    by_page (Some p) again =
        rw (again p.0 p.1)
        (joined p.0 p.1 (is_next top low p.0) refl (parse_times (page_form s) count p.1))

-- a page is put where zeros were
put_at : (done page others : List ℕ) (s at : ℕ) → length done ≡ at → length page ≡ s →
    put_bytes (done ++ (zeros s ++ others)) at page ≡ (done ++ page) ++ others
put_at done page others s at len size =
    let after : length (done ++ zeros s) ≡ at + length page =
    omega (arith, length-append done (zeros s), length-replicate {A = ℕ} s 0) in
    let parts = append_assoc done (zeros s) others in
    let front = take_at done (zeros s ++ others) at len in
    let back : drop (at + length page) (done ++ (zeros s ++ others)) ≡ others =
    ap (drop (at + length page)) (sym parts) ∙ drop_at (done ++ zeros s) others (at + length page) after in
    rw (front, back) (sym (append_assoc done page others))

-- where no page stands, all is 0
no_pages : (s k n : ℕ) → pages_from s k n [] ≡ zeros (s * n)
unfolding pages_from
no_pages s k zero = rw (mul-zero s) refl
no_pages s k (suc n) = pages_later s k n 0 [] refl ∙ rw (no_pages s (suc k) n) (sym (zeros_more s n))

next_length : (done page : List ℕ) (s k : ℕ) → length done ≡ s * k → length page ≡ s →
    length (done ++ page) ≡ s * suc k
next_length done page s k len size = omega (arith, length-append done page, mul-suc s k)

-- pages put into zeros are those of the memory that has them
encode_pages : (s n k top : ℕ) (ps : List (ℕ × List ℕ)) (done : List ℕ) → k + n ≡ top → rise_from k top ps ≡ true →
    AllByRecursion (λ (page : ℕ × List ℕ). length page.1 ≡ s) ps → length done ≡ s * k →
    put_all s (done ++ zeros (s * n)) ps ≡ done ++ pages_from s k n ps
encode_pages s n k top [] done all up sizes len = rw (no_pages s k n) refl
encode_pages s zero k top (page ∷ others) done all up sizes len =
    let next = (split k top page others up).next in
    let low = next.from_low in
    let high = next.below_top in
    absurd (omega arith)
encode_pages s (suc n) k top (page ∷ others) done all up sizes len =
    by_test (eqb page.0 k) refl (split k top page others up)
    (λ ps done' up' sizes' len'. encode_pages s n (suc k) top ps done' (omega arith) up' sizes' len')
  where
    by_test : (b : Bool) → eqb page.0 k ≡ b → Splits k top page others →
        ((ps : List (ℕ × List ℕ)) (done' : List ℕ) → rise_from (suc k) top ps ≡ true →
        AllByRecursion (λ (page : ℕ × List ℕ). length page.1 ≡ s) ps → length done' ≡ s * suc k →
        put_all s (done' ++ zeros (s * n)) ps ≡ done' ++ pages_from s (suc k) n ps) →
        put_all s (done ++ zeros (s * suc n)) (page ∷ others) ≡ done ++ pages_from s k (suc n) (page ∷ others)
    by_test true h parts again =
        let is : page.0 ≡ k = eqb-true page.0 k h in
        let here : pages_from s k (suc n) (page ∷ others) ≡ page.1 ++ pages_from s (suc k) n others =
        subst (λ (q : ℕ). pages_from s k (suc n) ((q, page.1) ∷ others) ≡ page.1 ++ pages_from s (suc k) n others)
        (sym is) (pages_here s k n page.1 others) in
        let put : put_bytes (done ++ zeros (s * suc n)) (s * page.0) page.1 ≡ (done ++ page.1) ++ zeros (s * n) =
        ap (λ (l : List ℕ). put_bytes (done ++ l) (s * page.0) page.1) (zeros_more s n)
        ∙ put_at done page.1 (zeros (s * n)) s (s * page.0) (len ∙ ap (λ (q : ℕ). s * q) (sym is)) sizes.0 in
        let rest = again others (done ++ page.1) (subst (λ (q : ℕ). rise_from (suc q) top others ≡ true) is parts.rest)
        sizes.1 (next_length done page.1 s k len sizes.0) in
        ap (λ (m : List ℕ). put_all s m others) put ∙ rest
        ∙ append_assoc done page.1 (pages_from s (suc k) n others) ∙ ap (λ (l : List ℕ). done ++ l) (sym here)
    by_test false h parts again =
        let up' = parts.later h in
        let zero_len : length (zeros s) ≡ s = length-replicate s 0 in
        let buffer : done ++ zeros (s * suc n) ≡ (done ++ zeros s) ++ zeros (s * n) =
        ap (λ (l : List ℕ). done ++ l) (zeros_more s n) ∙ sym (append_assoc done (zeros s) (zeros (s * n))) in
        let rest = again (page ∷ others) (done ++ zeros s) up' sizes (next_length done (zeros s) s k len zero_len) in
        ap (λ (m : List ℕ). put_all s m (page ∷ others)) buffer ∙ rest
        ∙ append_assoc done (zeros s) (pages_from s (suc k) n (page ∷ others))
        ∙ ap (λ (l : List ℕ). done ++ l) (sym (pages_later s k n top (page ∷ others) up'))

-- a page that is read is of the size of one
read_size : (s : ℕ) (text : List ℕ) (p : (ℕ × List ℕ) × List ℕ) → (page_form s).parse text ≡ Some p →
    length p.0.1 ≡ s
read_size s text p e =
    let a = bind_some ((number 4).parse text) (λ a. (bytes s).parse a.1 >>= λ b. Some ((a.0, b.0), b.1)) p e in
    let b = bind_some ((bytes s).parse a.0.1) (λ b. Some ((a.0.0, b.0), b.1)) p a.2 in
    let size =
    part_size a.0.1 b.0 (chosen (ltb (length a.0.1) s) None (Some (take s a.0.1, drop s a.0.1)) (Some b.0) b.1) in
    ap (λ (p : (ℕ × List ℕ) × List ℕ). length p.0.1) (sym (same_Some ((a.0.0, b.0.0), b.0.1) p b.2)) ∙ size
  where
    part_size : (after : List ℕ) (b : List ℕ × List ℕ) →
        ((ltb (length after) s ≡ true) × (None ≡ Some b)) ⊎
        ((ltb (length after) s ≡ false) × (Some (take s after, drop s after) ≡ Some b)) → length b.0 ≡ s
    part_size after b (inl h) = absurd (none-some b h.1)
    part_size after b (inr h) =
        let long : s ≤ length after = ltb-false _ _ h.0 in
        let len : length (take s after) ≡ s = omega (arith, length-take s after) in
        ap (λ (b : List ℕ × List ℕ). length b.0) (sym (same_Some (take s after, drop s after) b h.1)) ∙ len

read_sizes : (s count : ℕ) (text : List ℕ) (y : List (ℕ × List ℕ) × List ℕ) →
    parse_times (page_form s) count text ≡ Some y → AllByRecursion (λ (page : ℕ × List ℕ). length page.1 ≡ s) y.0
unfolding parse_times
read_sizes s zero text y e =
    subst (λ (y : List (ℕ × List ℕ) × List ℕ). AllByRecursion (λ (page : ℕ × List ℕ). length page.1 ≡ s) y.0)
    (same_Some ([], text) y e) tt
read_sizes s (suc count) text y e =
    let a = bind_some ((page_form s).parse text)
    (λ a. parse_times (page_form s) count a.1 >>= λ others. Some (a.0 ∷ others.0, others.1)) y e in
    let o = bind_some (parse_times (page_form s) count a.0.1) (λ others. Some (a.0.0 ∷ others.0, others.1)) y a.2 in
    subst (λ (y : List (ℕ × List ℕ) × List ℕ). AllByRecursion (λ (page : ℕ × List ℕ). length page.1 ≡ s) y.0)
    (same_Some (a.0.0 ∷ o.0.0, o.0.1) y o.2) (read_size s text a.0 a.1, read_sizes s count a.0.1 o.0 o.1)

-- loading pages into zeros one by one is reading the memory that has them
loads : (s top count : ℕ) (text : List ℕ) →
    load_pages s top 0 count text (zeros (s * top)) ≡ memory_read s top count text
loads s top count text =
    loaded s top 0 count text (zeros (s * top)) ∙ by_read (parse_times (page_form s) count text) refl
  where
    if_used : List (ℕ × List ℕ) × List ℕ → Option (List ℕ × List ℕ)
    if_used ps = if are_used top ps.0 then Some (memory_of s top ps.0, ps.1) else None

    by_test : (ps : List (ℕ × List ℕ)) (rest : List ℕ) → AllByRecursion (λ (page : ℕ × List ℕ). length page.1 ≡ s) ps →
        (b : Bool) → rise_from 0 top ps ≡ b →
        if_rise s top 0 (zeros (s * top)) (ps, rest) ≡ if_used (ps, rest)
    by_test ps rest sizes true h =
        let put = encode_pages s top 0 top ps [] (omega arith) h sizes (sym (mul-zero s)) in
        rw (are_used-rise top ps, h) (ap (λ (m : List ℕ). Some (m, rest)) put)
    by_test ps rest sizes false h = rw (are_used-rise top ps, h) refl

    by_read : (read : Option (List (ℕ × List ℕ) × List ℕ)) → parse_times (page_form s) count text ≡ read →
        (read >>= if_rise s top 0 (zeros (s * top))) ≡ (read >>= if_used)
    by_read None e = refl
    by_read (Some y) e = by_test y.0 y.1 (read_sizes s count text y e) (rise_from 0 top y.0) refl

pub half_loaded_bad : (s top count : ℕ) (text m : List ℕ) (low i : ℕ) (rest now : List ℕ) → m ≡ zeros (s * top) →
    i < count → (page_form s).parse rest ≡ None
    → IsHalfLoaded s top count text m low i rest now → memory_read s top count text ≡ None
unfolding load_pages
half_loaded_bad s top count text m low i rest now blank lt read so_far =
    let k : count - i ≡ suc (count - (i + 1)) = omega arith in
    let one : load_pages s top low (count - i) rest now ≡ None = rw (k, read) refl in
    sym (loads s top count text) ∙ ap (load_pages s top 0 count text) (sym blank) ∙ sym so_far ∙ one

pub half_loaded_refused : (s top count : ℕ) (text m : List ℕ) (low i : ℕ) (rest now : List ℕ) (q : ℕ)
    (page after : List ℕ) → m ≡ zeros (s * top) → i < count → (page_form s).parse rest ≡ Some ((q, page), after)
    → is_next top low (q, page) ≡ false → IsHalfLoaded s top count text m low i rest now →
    memory_read s top count text ≡ None
unfolding load_pages
half_loaded_refused s top count text m low i rest now q page after blank lt read other so_far =
    let k : count - i ≡ suc (count - (i + 1)) = omega arith in
    let one : load_pages s top low (count - i) rest now ≡ None = rw (k, read, other) refl in
    sym (loads s top count text) ∙ ap (load_pages s top 0 count text) (sym blank) ∙ sym so_far ∙ one

pub half_loaded_all : (s top count : ℕ) (text m : List ℕ) (low i : ℕ) (rest now : List ℕ) → m ≡ zeros (s * top) →
    count ≤ i → IsHalfLoaded s top count text m low i rest now → memory_read s top count text ≡ Some (now, rest)
unfolding load_pages
half_loaded_all s top count text m low i rest now blank le so_far =
    let k : count - i ≡ 0 = omega arith in
    let one : load_pages s top low (count - i) rest now ≡ Some (now, rest) = rw k refl in
    sym (loads s top count text) ∙ ap (load_pages s top 0 count text) (sym blank) ∙ sym so_far ∙ one

pub into_fault : {A B : Type 0} (e : SnapFault) (part : Option (A × List ℕ)) (whole : Option (B × List ℕ))
    (left : List ℕ) (value : B) (rest : List ℕ)
    → Reads part left (Err e) → (part ≡ None → whole ≡ None) → ReadsInto whole value rest (Err e)
into_fault Bad part whole left value rest h so = so h
into_fault Memory part whole left value rest h so = tt

-- ---- reading a memory

-- a memory is its count of pages, and these
pub counted : (s n count : ℕ) (text rest : List ℕ) → (number 8).parse text ≡ Some (count, rest) →
    (pages_form s n).parse text ≡ memory_read s n count rest
counted s n count text rest read = rw read (by_read (parse_times (page_form s) count rest))
  where
    tested : List (ℕ × List ℕ) × List ℕ → Bool → Option (List (ℕ × List ℕ) × List ℕ)
    tested ps b = cond b (Some ps) None

    memory : List (ℕ × List ℕ) × List ℕ → Option (List ℕ × List ℕ)
    memory ps = Some (memory_of s n ps.0, ps.1)

    by_test : (ps : List (ℕ × List ℕ) × List ℕ) (b : Bool) → (tested ps b >>= memory) ≡ cond b (memory ps) None
    by_test ps true = refl
    by_test ps false = refl

    by_read : (read : Option (List (ℕ × List ℕ) × List ℕ)) →
        ((read >>= λ x. tested x (are_used n x.0)) >>= memory)
        ≡ (read >>= λ ps. cond (are_used n ps.0) (memory ps) None)
    by_read None = refl
    by_read (Some ps) = by_test ps (are_used n ps.0)

pub not_counted : (s n : ℕ) (text : List ℕ) → (number 8).parse text ≡ None → (pages_form s n).parse text ≡ None
not_counted s n text read = rw read refl
