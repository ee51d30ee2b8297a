-- A directory of pages is the list of its bytes.
use Rattle.std.proofs.Common.{◌≡◌, ℕ, zero, suc, ◌+◌, ◌*◌, ◌/◌, ◌%◌, ◌<◌, ◌≤◌, List, [], ◌∷◌, ◌++◌, length, take, drop}
use Rattle.std.proofs.Common.{get_or, refl, sym, ap, ◌∙◌, subst, arith, append_assoc, length-append, append-nil, true}
use Rattle.std.specs.Prelude.{Option, Some, None, slice_set}
use Rattle.std.proofs.lemmas.List.{replicate-append-replicate, take_all}
use Rattle.page_ram.specs.Access.{page_size}
use Rattle.page_ram.specs.Bytes.{zeros, value_at, put_bytes}
use Rattle.page_ram.specs.Pages.{is_zero, page_of}
use Rattle.page_ram.specs.LittleEndian.{number_of}
use Rattle.page_ram.specs.Inner.Lent.{with_held}
use Rattle.page_ram.specs.Inner.Directory.{Page, zero_page, page_bytes, bytes_of, IsPaged}
use Rattle.page_ram.proofs.ByteLemmas.{take-first, take-second, put_bytes-first, put_bytes-second, length-put_bytes}
use Rattle.page_ram.proofs.ByteLemmas.{length-zeros, take-drop-zeros, value_at-zeros, value_at-one, put_zeros-same}

-- pages without memory

pub zero_page-is : zero_page ≡ zeros page_size
unfolding zero_page
zero_page-is = refl

length-zero_page : length zero_page ≡ page_size
length-zero_page = rw zero_page-is (length-zeros page_size)

bytes_of-append : (ps : List Page) (p : Page) → bytes_of (ps ++ p ∷ []) ≡ bytes_of ps ++ page_bytes p.held
bytes_of-append [] p = append-nil (page_bytes p.held)
bytes_of-append (q ∷ ps) p =
    ap (λ r. page_bytes q.held ++ r) (bytes_of-append ps p)
    ∙ sym (append_assoc (page_bytes q.held) (bytes_of ps) (page_bytes p.held))

-- a directory that grows by a page without memory
pub bytes_of-push :
    (ps : List Page) (p : Page) (n : ℕ) → bytes_of ps ≡ zeros n → p.held ≡ None →
    bytes_of (ps ++ p ∷ []) ≡ zeros (n + page_size)
bytes_of-push ps p n is absent =
    bytes_of-append ps p ∙ rw (is, absent, zero_page-is) (replicate-append-replicate {A = ℕ} n page_size 0)

pub IsPaged-push : (ps : List Page) (p : Page) → IsPaged ps → p.held ≡ None → IsPaged (ps ++ p ∷ [])
IsPaged-push [] p paged absent = (ap length (ap page_bytes absent) ∙ length-zero_page, tt)
IsPaged-push (q ∷ ps) p paged absent = (paged.0, IsPaged-push ps p paged.1 absent)

-- the page of an address

length-bytes_of : (ps : List Page) → IsPaged ps → length (bytes_of ps) ≡ length ps * page_size
length-bytes_of [] paged = refl
length-bytes_of (p ∷ ps) paged =
    omega (arith, length-append (page_bytes p.held) (bytes_of ps), paged.0, length-bytes_of ps paged.1)

pub page-in :
    (ps : List Page) (at n count : ℕ) → count ≡ length ps → IsPaged ps → 0 < n → at + n ≤ length (bytes_of ps) →
    at / page_size < count
page-in ps at n count is paged some h = omega (arith, length-bytes_of ps paged)

IsPaged-get :
    (ps : List Page) (i : ℕ) (p : Page) → IsPaged ps → i < length ps → p ≡ get_or ps i p →
    length (page_bytes p.held) ≡ page_size
IsPaged-get [] i p paged h is = absurd (omega arith)
IsPaged-get (q ∷ ps) zero p paged h is = rw is paged.0
IsPaged-get (q ∷ ps) (suc i) p paged h is = IsPaged-get ps i p paged.1 (omega arith) is

IsPaged-set :
    (ps : List Page) (i : ℕ) (p : Page) → IsPaged ps → length (page_bytes p.held) ≡ page_size →
    IsPaged (slice_set ps i p)
IsPaged-set [] i p paged whole = tt
IsPaged-set (q ∷ ps) zero p paged whole = (whole, paged.1)
IsPaged-set (q ∷ ps) (suc i) p paged whole = (paged.0, IsPaged-set ps i p paged.1 whole)

pub slice_set-same : (ps : List Page) (i : ℕ) (p : Page) → p ≡ get_or ps i p → slice_set ps i p ≡ ps
slice_set-same [] i p is = refl
slice_set-same (q ∷ ps) zero p is = rw is refl
slice_set-same (q ∷ ps) (suc i) p is = ap (λ r. q ∷ r) (slice_set-same ps i p is)

-- bytes in a page are the memory's

take-page :
    (ps : List Page) (i offset n : ℕ) (p : Page) → IsPaged ps → i < length ps → offset + n ≤ page_size →
    p ≡ get_or ps i p →
    take n (drop (i * page_size + offset) (bytes_of ps)) ≡ take n (drop offset (page_bytes p.held))
take-page [] i offset n p paged h fits is = absurd (omega arith)
take-page (q ∷ ps) zero offset n p paged h fits is =
    let at : zero * page_size + offset ≡ offset = omega arith in
    rw (at, is) (take-first (page_bytes q.held) (bytes_of ps) offset n (omega (arith, paged.0)))
take-page (q ∷ ps) (suc i) offset n p paged h fits is =
    let at : suc i * page_size + offset ≡ page_size + (i * page_size + offset) = omega arith in
    let later = take-second (page_bytes q.held) (bytes_of ps) page_size (i * page_size + offset) n paged.0 in
    rw at (later ∙ take-page ps i offset n p paged.1 (omega arith) fits is)

put-page :
    (ps : List Page) (i offset : ℕ) (part : List ℕ) (p new : Page) → IsPaged ps → i < length ps →
    offset + length part ≤ page_size → p ≡ get_or ps i p →
    page_bytes new.held ≡ put_bytes (page_bytes p.held) offset part →
    bytes_of (slice_set ps i new) ≡ put_bytes (bytes_of ps) (i * page_size + offset) part
put-page [] i offset part p new paged h fits is new_is = absurd (omega arith)
put-page (q ∷ ps) zero offset part p new paged h fits is new_is =
    let at : zero * page_size + offset ≡ offset = omega arith in
    rw (at, new_is, is) (sym (put_bytes-first (page_bytes q.held) (bytes_of ps) part offset (omega (arith, paged.0))))
put-page (q ∷ ps) (suc i) offset part p new paged h fits is new_is =
    let at : suc i * page_size + offset ≡ page_size + (i * page_size + offset) = omega arith in
    let later = put_bytes-second (page_bytes q.held) (bytes_of ps) part page_size (i * page_size + offset) paged.0 in
    let rest = put-page ps i offset part p new paged.1 (omega arith) fits is new_is in
    rw (at, later) (ap (λ r. page_bytes q.held ++ r) rest)

-- n bytes from an address on, which lie in the page p
module _
    (ps : List Page) (ram : List ℕ) (at n : ℕ) (p : Page) (view : bytes_of ps ≡ ram) (paged : IsPaged ps)
    (some : 0 < n) (fits : at + n ≤ length ram) (in_page : at % page_size + n ≤ page_size)
    (is : p ≡ get_or ps (at / page_size) p) where
  within : at / page_size < length ps
  within = page-in ps at n (length ps) refl paged some (rw view fits)

  address : at ≡ at / page_size * page_size + at % page_size
  address = omega arith

  taken : take n (drop at (bytes_of ps)) ≡ take n (drop (at % page_size) (page_bytes p.held))
  taken =
      ap (λ k. take n (drop k (bytes_of ps))) address
      ∙ take-page ps (at / page_size) (at % page_size) n p paged within in_page is

  -- what is loaded from a page with memory, and from one without
  value_at-page : value_at ram at n ≡ value_at (page_bytes p.held) (at % page_size) n
  value_at-page = rw (← view) (ap number_of taken)

  pub value_at-present :
      (bytes : List ℕ) → p.held ≡ Some bytes → (width : ℕ) → width ≡ n →
      value_at bytes (at % page_size) width ≡ value_at ram at n
  value_at-present bytes held width width_is =
      ap (value_at bytes (at % page_size)) width_is
      ∙ sym (value_at-page ∙ ap (λ b. value_at (page_bytes b) (at % page_size) n) held)

  pub value_at-absent : p.held ≡ None → value_at ram at n ≡ 0
  value_at-absent held =
      value_at-page
      ∙ ap (λ b. value_at (page_bytes b) (at % page_size) n) held
      ∙ rw zero_page-is (value_at-zeros (at % page_size) n page_size)

  pub byte-present :
      (bytes : List ℕ) → p.held ≡ Some bytes → 1 ≡ n → get_or bytes (at % page_size) 0 ≡ value_at ram at n
  byte-present bytes held one =
      let whole : length bytes ≡ page_size =
      subst (λ b. length (page_bytes b) ≡ page_size) held (IsPaged-get ps (at / page_size) p paged within is) in
      value_at-one bytes (at % page_size) (omega arith) ∙ value_at-present bytes held 1 one

  -- zeros put into a page without memory
  pub absent-zeroed : p.held ≡ None → bytes_of ps ≡ put_bytes ram at (zeros n)
  absent-zeroed held =
      let bytes_are = ap (λ b. take n (drop (at % page_size) b)) (ap page_bytes held ∙ zero_page-is) in
      let zero_there = taken ∙ bytes_are ∙ take-drop-zeros (at % page_size) n page_size in_page in
      rw (← view) (sym (put_zeros-same (bytes_of ps) at n zero_there))

pub held-is : (held : Option (List ℕ)) (bytes : List ℕ) → held ≡ Some bytes → held ≡ Some (page_bytes held)
held-is held bytes is = is ∙ ap (λ o. Some (page_bytes o)) (sym is)

-- n bytes put in the page p: it becomes `present`, whose bytes are `old`, which become `new`
module _
    (ps : List Page) (ram : List ℕ) (at n : ℕ) (part : List ℕ) (p present : Page) (old new : List ℕ)
    (view : bytes_of ps ≡ ram) (paged : IsPaged ps) (some : 0 < n) (fits : at + n ≤ length ram)
    (in_page : at % page_size + n ≤ page_size) (is : p ≡ get_or ps (at / page_size) p) (length_is : length part ≡ n)
    (made : present.held ≡ Some (page_bytes p.held)) (lent : present.held ≡ Some old)
    (written : new ≡ put_bytes old (at % page_size) part) where
  there : at / page_size < length ps
  there = page-in ps at n (length ps) refl paged some (rw view fits)

  new-is : new ≡ put_bytes (page_bytes p.held) (at % page_size) part
  new-is = written ∙ ap (λ b. put_bytes b (at % page_size) part) (ap page_bytes (sym lent ∙ made))

  pub stored-paged : IsPaged (slice_set ps (at / page_size) (with_held present (Some new)))
  stored-paged =
      let whole = IsPaged-get ps (at / page_size) p paged there is in
      let length-new = ap length new-is ∙ length-put_bytes (page_bytes p.held) part (at % page_size) (omega arith) in
      IsPaged-set ps (at / page_size) (with_held present (Some new)) paged (length-new ∙ whole)

  pub stored-bytes :
      bytes_of (slice_set ps (at / page_size) (with_held present (Some new))) ≡ put_bytes ram at part
  stored-bytes =
      let stored = with_held present (Some new) in
      let in_it = put-page ps (at / page_size) (at % page_size) part p stored paged there (omega arith) is new-is in
      let address : at / page_size * page_size + at % page_size ≡ at = omega arith in
      rw (← view) (in_it ∙ ap (λ k. put_bytes (bytes_of ps) k part) address)

  pub stored-length :
      length (bytes_of (slice_set ps (at / page_size) (with_held present (Some new)))) ≡ length ram
  stored-length = ap length stored-bytes ∙ length-put_bytes ram part at (omega arith)

-- whole pages

pub page-there :
    (ps : List Page) (ram : List ℕ) (i count : ℕ) → count ≡ length ps → bytes_of ps ≡ ram → IsPaged ps →
    page_size * (i + 1) ≤ length ram → i < count
page-there ps ram i count is view paged fits =
    let long : page_size * (i + 1) ≤ length (bytes_of ps) = rw view fits in
    omega (arith, length-bytes_of ps paged)

pub whole-page :
    (ps : List Page) (ram : List ℕ) (i : ℕ) (p : Page) → bytes_of ps ≡ ram → IsPaged ps →
    page_size * (i + 1) ≤ length ram → p ≡ get_or ps i p → page_of ram i ≡ page_bytes p.held
whole-page ps ram i p view paged fits is =
    let within = page-there ps ram i (length ps) refl view paged fits in
    let at : page_size * i ≡ i * page_size + 0 = omega arith in
    let whole : length (page_bytes p.held) ≤ page_size = omega (arith, IsPaged-get ps i p paged within is) in
    rw (← view, at)
    (take-page ps i 0 page_size p paged within (omega arith) is ∙ take_all page_size (page_bytes p.held) whole)

is_zero-zeros : (n : ℕ) → is_zero (zeros n) ≡ true
is_zero-zeros zero = refl
is_zero-zeros (suc n) = is_zero-zeros n

-- a page without memory is all 0
pub absent-is_zero :
    (ps : List Page) (ram : List ℕ) (i : ℕ) (p : Page) → bytes_of ps ≡ ram → IsPaged ps →
    page_size * (i + 1) ≤ length ram → p ≡ get_or ps i p → p.held ≡ None → is_zero (page_of ram i) ≡ true
absent-is_zero ps ram i p view paged fits is absent =
    ap is_zero (whole-page ps ram i p view paged fits is ∙ ap page_bytes absent ∙ zero_page-is)
    ∙ is_zero-zeros page_size
