-- What the order of arrival does not decide.
use Rattle.std.proofs.Common.{◌≡◌, ◌∙◌, ℕ, suc, ◌<◌, ◌==◌, List, [], ◌∷◌, ◌++◌, length, map, get_or}
use Rattle.std.proofs.Common.{refl, sym, ap, subst, inl, inr, arith, false}
use Rattle.std.specs.Ordering.{eq_by_cmp}
use Rattle.std.specs.List.{IsDistinct, AllByRecursion}
use Rattle.std.specs.List.Sorted.{IsPermutation}
use Rattle.std.proofs.lemmas.Bool.{cases_eq}
use Rattle.std.proofs.lemmas.List.Elements.{filter-append}
use Rattle.std.proofs.lemmas.List.Sorted.{IsPermutation-refl, IsPermutation-sym, IsPermutation-cons}
use Rattle.std.proofs.lemmas.List.Sorted.{IsPermutation-trans, IsPermutation-middle}
use Rattle.lab_num.specs.Key.{key_cmp, KeysDiffer}
use Rattle.lab_num.specs.Listing.{IsListing, listing}
use Rattle.lab_num.proofs.KeyLemmas.{boards_apart, numbers_apart}
use Rattle.dev_core.specs.declared.post.Post.{Post}
use Rattle.dev_core.specs.Post.{post_key}
use Rattle.hub_mail.specs.Posts.{of_board, RiseByNumber}
use Rattle.hub_mail.proofs.OfBoard.{board_of, first_here, first_else}

-- ---- the same posts of each board are the same posts

abbrev others_of : List Post → List Post
others_of [] = []
others_of (p ∷ ps) = ps

abbrev first_of : List Post → Post → Post
first_of [] other = other
first_of (p ∷ ps) other = p

-- the first post of a board, with what stands before it and after it
record Found (post : Post) (posts : List Post) : Type 0 where
  before : List Post
  after : List Post
  is : posts ≡ before ++ post ∷ after
  none : of_board (board_of post) before ≡ []

found : (post : Post) (others posts : List Post) → of_board (board_of post) posts ≡ post ∷ others → Found post posts
found post others [] is = absurd (cc)
found post others (q ∷ qs) is = elim (cases_eq (board_of q) (board_of post)) [
  | inl here ↦
      let first : q ≡ post = ap (λ l. first_of l post) (sym (first_here (board_of post) q qs here) ∙ is) in
      record { before = []; after = qs; is = ap (λ p. p ∷ qs) first; none = refl }
  | inr away ↦
      let skip = first_else (board_of post) q qs away in
      let rest = found post others qs (sym skip ∙ is) in
      record {
        before = q ∷ rest.before;
        after = rest.after;
        is = ap (λ l. q ∷ l) rest.is;
        none = first_else (board_of post) q rest.before away ∙ rest.none;
      }
]

-- without a post that both lists have, they still have the same posts of each board
without : (post : Post) (xs before after : List Post) → of_board (board_of post) before ≡ [] →
    ((board : ℕ) → of_board board (post ∷ xs) ≡ of_board board (before ++ post ∷ after)) →
    (board : ℕ) → of_board board xs ≡ of_board board (before ++ after)
without post xs before after none same board =
    let parts = filter-append (λ p. board_of p == board) before after in
    let parts' = filter-append (λ p. board_of p == board) before (post ∷ after) in
    elim (cases_eq (board_of post) board) [
      | inl here ↦
          let nothing : of_board board before ≡ [] = subst (λ b. of_board b before ≡ []) here none in
          ap others_of (sym (first_here board post xs here) ∙ same board ∙ parts'
          ∙ (λ i. nothing i ++ first_here board post after here i))
          ∙ sym (parts ∙ ap (λ l. l ++ of_board board after) nothing)
      | inr away ↦
          sym (first_else board post xs away) ∙ same board ∙ parts'
          ∙ ap (λ l. of_board board before ++ l) (first_else board post after away) ∙ sym parts
    ]

empty : (posts : List Post) → ((board : ℕ) → [] ≡ of_board board posts) → [] ≡ posts
empty [] none = refl
empty (p ∷ ps) none =
    let is : [] ≡ p ∷ of_board (board_of p) ps = none (board_of p) ∙ first_here (board_of p) p ps refl in
    absurd (cc)

pub same_members : (one other : List Post) → ((board : ℕ) → of_board board one ≡ of_board board other) →
    IsPermutation one other
same_members [] other same = subst (λ (l : List Post). IsPermutation [] l) (empty other same) (IsPermutation-refl [])
same_members (x ∷ xs) other same =
    let f : Found x other =
    found x (of_board (board_of x) xs) other (sym (same (board_of x)) ∙ first_here (board_of x) x xs refl) in
    let rest = same_members xs (f.before ++ f.after)
    (without x xs f.before f.after f.none (λ board. same board ∙ ap (of_board board) f.is)) in
    let moved = IsPermutation-sym (f.before ++ x ∷ f.after) (x ∷ (f.before ++ f.after))
    (IsPermutation-middle f.before x f.after) in
    subst (λ (l : List Post). IsPermutation (x ∷ xs) l) (sym f.is)
    (IsPermutation-trans (x ∷ xs) (x ∷ (f.before ++ f.after)) (f.before ++ x ∷ f.after)
    (IsPermutation-cons x xs (f.before ++ f.after) rest) moved)

-- ---- posts that rise by number on each board differ in key

abbrev Above : Post → List Post → Type 0
Above p = AllByRecursion (λ q. p.key.number.0 < q.key.number.0)

above : (p : Post) (qs : List Post) →
    ((k : ℕ) (d : Post) → k < length qs → p.key.number.0 < (get_or qs k d).key.number.0) → Above p qs
above p [] each = tt
above p (q ∷ qs) each = (each 0 q (omega arith), above p qs (λ k d less. each (suc k) d (omega arith)))

differ_later : (p : Post) (qs : List Post) → Above p (of_board (board_of p) qs) →
    AllByRecursion (λ key. eq_by_cmp key_cmp p.key key ≡ false) (map post_key qs)
differ_later p [] lower = tt
differ_later p (q ∷ qs) lower = elim (cases_eq (board_of q) (board_of p)) [
  | inl here ↦
      let both : Above p (q ∷ of_board (board_of p) qs) = subst (Above p) (first_here (board_of p) q qs here) lower in
      (numbers_apart p.key q.key (λ e. omega (arith, both.0)), differ_later p qs both.1)
  | inr away ↦ (
    boards_apart p.key q.key (λ e. away (sym e)),
    differ_later p qs (subst (Above p) (first_else (board_of p) q qs away) lower),
  )
]

rise_after : (p : Post) (ps : List Post) → RiseByNumber (p ∷ ps) → RiseByNumber ps
rise_after p ps rising i j d ij jl = rising (suc i) (suc j) d (omega arith) (omega arith)

pub keys_differ : (posts : List Post) → ((board : ℕ) → RiseByNumber (of_board board posts)) → KeysDiffer post_key posts
unfolding IsDistinct
keys_differ [] rising = tt
keys_differ (p ∷ ps) rising =
    let own : RiseByNumber (p ∷ of_board (board_of p) ps) =
    subst RiseByNumber (first_here (board_of p) p ps refl) (rising (board_of p)) in (
      differ_later p ps (above p (of_board (board_of p) ps) (λ k d less. own 0 (suc k) d (omega arith) (omega arith))),
      keys_differ ps (λ board. elim (cases_eq (board_of p) board) [
        | inl here ↦ rise_after p (of_board board ps) (subst RiseByNumber (first_here board p ps here) (rising board))
        | inr away ↦ subst RiseByNumber (first_else board p ps away) (rising board)
      ]),
    )

-- ---- the listing

pub one_listing :
    ((items : List Post) → KeysDiffer post_key items → IsListing post_key items (listing post_key items)) →
    ((items listed : List Post) → IsListing post_key items listed → listed ≡ listing post_key items) →
    (one other : List Post) → IsPermutation one other → KeysDiffer post_key one →
    listing post_key one ≡ listing post_key other
one_listing is_listing only one other moved differ =
    let listed = is_listing one differ in
    only other (listing post_key one) (record {
      members = IsPermutation-trans other one (listing post_key one) (IsPermutation-sym one other moved) listed.members;
      rising = listed.rising;
    })
