-- The mail of two orders of events has one listing.
use Rattle.std.proofs.Common.{◌≡◌, ◌≢◌, ◌∙◌, ℕ, zero, suc, ◌+◌, ◌<◌, ◌≤◌, List, [], ◌∷◌, ◌++◌, length, map, inl, inr}
use Rattle.std.proofs.Common.{refl, sym, ap, subst, arith, false, All, Option, Some, slice_get}
use Rattle.std.proofs.Common.{eq-eqb, ne_eqb}
use Rattle.std.specs.Ordering.{eq_by_cmp}
use Rattle.std.specs.List.{IsDistinct, AllByRecursion}
use Rattle.std.specs.List.Sorted.{IsPermutation}
use Rattle.std.specs.Cmp.{IsTotalOrder, eq_by_cmp_equiv}
use Rattle.std.proofs.lemmas.Bool.{cases_eq}
use Rattle.std.proofs.lemmas.List.{map-append}
use Rattle.std.proofs.lemmas.List.Elements.{All-head, All-tail}
use Rattle.std.proofs.lemmas.List.Sorted.{IsPermutation-refl, IsPermutation-sym, IsPermutation-cons}
use Rattle.std.proofs.lemmas.List.Sorted.{IsPermutation-trans}
use Rattle.std.proofs.lemmas.List.Sorted.{IsPermutation-map, IsPermutation-middle, IsPermutation-append_left}
use Rattle.std.proofs.lemmas.Map.Keys.{IsDistinct-IsPermutation}
use Rattle.lab_num.specs.declared.key.Key.{Key}
use Rattle.lab_num.specs.Key.{key_cmp, KeysDiffer}
use Rattle.lab_num.specs.Numbered.{AreNumbered}
use Rattle.lab_num.specs.Listing.{IsListing, listing}
use Rattle.lab_num.proofs.KeyLemmas.{boards_apart, numbers_apart}
use Rattle.lab_num.proofs.ListLemmas.{each-append, each-weaker}
use Rattle.dev_core.specs.declared.post.Post.{Post}
use Rattle.dev_core.specs.Post.{post_key}
use Rattle.floor_core.specs.declared.event.Mailed.{Mailed}
use Rattle.floor_core.specs.Floor.{Floor, posted_by}
use Rattle.floor_core.specs.Job.{Job}
use Rattle.floor_core.specs.Result.{IsOver, IsNumbered, mailed}

-- ---- the mail is what the boards posted, in another order

-- what the first n boards posted, board after board
gathered : ℕ → List Mailed → List Post
gathered zero mail = []
gathered (suc n) mail = gathered n mail ++ posted_by n mail

posted_here : (i : ℕ) (m : Mailed) (ms : List Mailed) → m.by.0 ≡ i → posted_by i (m ∷ ms) ≡ m.post ∷ posted_by i ms
posted_here i m ms is = rw (eq-eqb m.by.0 i is) refl

posted_there : (i : ℕ) (m : Mailed) (ms : List Mailed) → m.by.0 ≢ i → posted_by i (m ∷ ms) ≡ posted_by i ms
posted_there i m ms apart = rw (ne_eqb m.by.0 i apart) refl

gathered_past : (n : ℕ) (m : Mailed) (ms : List Mailed) → n ≤ m.by.0 → gathered n (m ∷ ms) ≡ gathered n ms
unfolding gathered
gathered_past zero m ms past = refl
gathered_past (suc n) m ms past =
    let first = gathered_past n m ms (omega arith) in
    let last = posted_there n m ms (λ h. omega arith) in
    λ k. first k ++ last k

gathered_step :
    (n : ℕ) (m : Mailed) (ms : List Mailed) → m.by.0 < n → IsPermutation (m.post ∷ gathered n ms) (gathered n (m ∷ ms))
unfolding gathered
gathered_step zero m ms below = absurd (omega arith)
gathered_step (suc n) m ms below =
    elim (cases_eq m.by.0 n) [
      | inl is ↦
          let here = posted_here n m ms is in
          let past = gathered_past n m ms (omega arith) in
          let moved =
          IsPermutation-sym (gathered n ms ++ m.post ∷ posted_by n ms) (m.post ∷ (gathered n ms ++ posted_by n ms))
          (IsPermutation-middle (gathered n ms) m.post (posted_by n ms)) in
          subst (λ (l : List Post). IsPermutation (m.post ∷ (gathered n ms ++ posted_by n ms)) l)
          (λ k. sym past k ++ sym here k) moved
      | inr apart ↦
          let rest = posted_there n m ms apart in
          let step = gathered_step n m ms (omega arith) in
          subst (λ (l : List Post). IsPermutation (m.post ∷ (gathered n ms ++ posted_by n ms)) (gathered n (m ∷ ms)
          ++ l))
          (sym rest)
          (IsPermutation-append_left (posted_by n ms) (m.post ∷ gathered n ms) (gathered n (m ∷ ms)) step)
    ]

gathered_none : (n : ℕ) → gathered n [] ≡ []
unfolding gathered
gathered_none zero = refl
gathered_none (suc n) = ap (λ (l : List Post). l ++ []) (gathered_none n)

mail_gathered :
    (n : ℕ) (mail : List Mailed) → All (λ m. m.by.0 < n) mail → IsPermutation (map (λ m. m.post) mail) (gathered n mail)
mail_gathered n [] all =
    subst (λ (l : List Post). IsPermutation [] l) (sym (gathered_none n)) (IsPermutation-refl [])
mail_gathered n (m ∷ ms) all =
    IsPermutation-trans (m.post ∷ map (λ m. m.post) ms) (m.post ∷ gathered n ms) (gathered n (m ∷ ms))
    (IsPermutation-cons m.post (map (λ m. m.post) ms) (gathered n ms)
    (mail_gathered n ms (All-tail (λ m. m.by.0 < n) m ms all)))
    (gathered_step n m ms (All-head (λ m. m.by.0 < n) m ms all))

-- where each board posted the same, what they posted is the same
same_gathered :
    (n : ℕ) (one other : List Mailed) → ((i : ℕ) → i < n → posted_by i one ≡ posted_by i other) →
    gathered n one ≡ gathered n other
unfolding gathered
same_gathered zero one other each = refl
same_gathered (suc n) one other each =
    let first = same_gathered n one other (λ i below. each i (omega arith)) in
    let last = each n (omega arith) in
    λ k. first k ++ last k

-- ---- the keys of numbered posts differ

-- a key differs from those of later posts
numbered_later :
    (board first : ℕ) (key : Key) (ps : List Post) → key.number.0 < first → AreNumbered board first (map post_key ps) →
    AllByRecursion (λ y. eq_by_cmp key_cmp key y ≡ false) (map post_key ps)
numbered_later board first key [] below are = tt
numbered_later board first key (p ∷ ps) below are =
    (numbers_apart key p.key (λ h. omega (arith, are.1)), numbered_later board (first + 1) key ps (omega arith) are.2)

numbered_differ :
    (board first : ℕ) (ps : List Post) → AreNumbered board first (map post_key ps) → KeysDiffer post_key ps
unfolding IsDistinct
numbered_differ board first [] are = tt
numbered_differ board first (p ∷ ps) are =
    (numbered_later board (first + 1) p.key ps (omega (arith, are.1)) are.2, numbered_differ board (first + 1) ps are.2)

numbered_boards :
    (board first : ℕ) (ps : List Post) → AreNumbered board first (map post_key ps) →
    AllByRecursion (λ p. p.key.board.0 ≡ board) ps
numbered_boards board first [] are = tt
numbered_boards board first (p ∷ ps) are = (are.0, numbered_boards board (first + 1) ps are.2)

-- the key of a post of a lower board differs from those of a board
below_board :
    (n : ℕ) (key : Key) (ys : List Post) → key.board.0 < n → AllByRecursion (λ p. p.key.board.0 ≡ n) ys →
    AllByRecursion (λ y. eq_by_cmp key_cmp key y ≡ false) (map post_key ys)
below_board n key [] below all = tt
below_board n key (y ∷ ys) below all =
    (boards_apart key y.key (λ h. omega (arith, all.0)), below_board n key ys below all.1)

differ_append :
    (n : ℕ) (xs ys : List Post) → AllByRecursion (λ p. p.key.board.0 < n) xs →
    AllByRecursion (λ p. p.key.board.0 ≡ n) ys →
    KeysDiffer post_key xs → KeysDiffer post_key ys → KeysDiffer post_key (xs ++ ys)
unfolding IsDistinct
differ_append n [] ys below here first second = second
differ_append n (x ∷ xs) ys below here first second = (
  subst (λ (l : List Key). AllByRecursion (λ y. eq_by_cmp key_cmp x.key y ≡ false) l) (sym (map-append post_key xs ys))
      (each-append (λ y. eq_by_cmp key_cmp x.key y ≡ false) (map post_key xs) (map post_key ys) first.0
      (below_board n x.key ys below.0 here)),
  differ_append n xs ys below.1 here first.1 second,
)

-- what each of the first n boards posted is numbered
abbrev Numbered : ℕ → List Mailed → Type 0
Numbered n mail = (i : ℕ) → i < n → (first : ℕ) × AreNumbered i first (map post_key (posted_by i mail))

gathered_boards : (n : ℕ) (mail : List Mailed) → Numbered n mail →
    AllByRecursion (λ p. p.key.board.0 < n) (gathered n mail)
unfolding gathered
gathered_boards zero mail each = tt
gathered_boards (suc n) mail each =
    let are = each n (omega arith) in
    each-append (λ p. p.key.board.0 < suc n) (gathered n mail) (posted_by n mail)
    (each-weaker (λ p. p.key.board.0 < n) (λ p. p.key.board.0 < suc n) (λ p below. omega arith) (gathered n mail)
    (gathered_boards n mail (λ i below. each i (omega arith))))
    (each-weaker (λ p. p.key.board.0 ≡ n) (λ p. p.key.board.0 < suc n) (λ p is. omega arith) (posted_by n mail)
    (numbered_boards n are.0 (posted_by n mail) are.1))

gathered_differ : (n : ℕ) (mail : List Mailed) → Numbered n mail → KeysDiffer post_key (gathered n mail)
unfolding gathered IsDistinct
gathered_differ zero mail each = tt
gathered_differ (suc n) mail each =
    let are = each n (omega arith) in
    let before : Numbered n mail = λ i below. each i (omega arith) in
    differ_append n (gathered n mail) (posted_by n mail) (gathered_boards n mail before)
    (numbered_boards n are.0 (posted_by n mail) are.1)
    (gathered_differ n mail before)
    (numbered_differ n are.0 (posted_by n mail) are.1)

-- ---- the listing

item_at : {A : Type 0} (xs : List A) (i : ℕ) → i < length xs → (x : A) × (slice_get xs i ≡ Some x)
item_at [] i below = absurd (omega arith)
item_at (x ∷ xs) zero below = (x, refl)
item_at (x ∷ xs) (suc i) below = item_at xs i (omega arith)

-- posts that two orders leave, where each board posted the same, have one listing
pub same_listing :
    IsTotalOrder key_cmp →
    ((items : List Post) → KeysDiffer post_key items → IsListing post_key items (listing post_key items)) →
    ((items listed : List Post) → IsListing post_key items listed → listed ≡ listing post_key items) →
    {S : Type 0} (state_after : S → List (Option Post) → ℕ → S) (starts : List (Job S)) (f g : Floor S) →
    All (λ m. m.by.0 < length starts) f.mail → IsOver state_after starts f →
    All (λ m. m.by.0 < length starts) g.mail → IsOver state_after starts g → IsNumbered starts →
    (listing post_key (mailed f) ≡ listing post_key (mailed g)) ×
    IsListing post_key (mailed f) (listing post_key (mailed g))
same_listing total is_listing only {S} state_after starts f g members over members_too over_too numbered =
    let n = length starts in
    let same : gathered n f.mail ≡ gathered n g.mail =
    same_gathered n f.mail g.mail
    (λ i below. let start = item_at starts i below in over.posts i start.0 start.1 ∙
    sym (over_too.posts i start.0 start.1)) in
    let each : Numbered n g.mail =
    λ i below.
    let start = item_at starts i below in
    let first = numbered i start.0 start.1 in (
      first.0,
      subst (λ (l : List Post). AreNumbered i first.0 (map post_key l)) (sym (over_too.posts i start.0 start.1))
          first.1,
    ) in
    let back : IsPermutation (gathered n g.mail) (mailed g) =
    IsPermutation-sym (mailed g) (gathered n g.mail) (mail_gathered n g.mail members_too) in
    let there : IsPermutation (mailed f) (gathered n g.mail) =
    subst (λ (l : List Post). IsPermutation (mailed f) l) same (mail_gathered n f.mail members) in
    let moved : IsPermutation (mailed f) (mailed g) =
    IsPermutation-trans (mailed f) (gathered n g.mail) (mailed g) there back in
    let differ : KeysDiffer post_key (mailed g) =
    IsDistinct-IsPermutation (eq_by_cmp key_cmp) (eq_by_cmp_equiv total).symm (map post_key (gathered n g.mail))
    (map post_key (mailed g)) (IsPermutation-map post_key (gathered n g.mail) (mailed g) back)
    (gathered_differ n g.mail each) in
    let listed = is_listing (mailed g) differ in
    let both : IsListing post_key (mailed f) (listing post_key (mailed g)) =
    record {
      members = IsPermutation-trans (mailed f) (mailed g) (listing post_key (mailed g)) moved listed.members;
      rising = listed.rising;
    } in
    (sym (only (mailed f) (listing post_key (mailed g)) both), both)
