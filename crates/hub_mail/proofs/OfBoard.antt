-- The posts of each board, after one post more.
use Rattle.std.proofs.Common.{◌≡◌, ◌≢◌, ◌∙◌, ℕ, zero, suc, ◌<◌, ◌==◌, cond, List, [], ◌∷◌, ◌++◌, length, get_or}
use Rattle.std.proofs.Common.{refl, sym, ap, inl, inr, arith, eq-eqb, ne_eqb}
use Rattle.std.proofs.lemmas.Bool.{cases_eq}
use Rattle.std.proofs.lemmas.List.{append-nil}
use Rattle.std.proofs.lemmas.List.Elements.{filter-append}
use Rattle.std.proofs.lemmas.List.Quantifiers.{all_pairs_push}
use Rattle.dev_core.specs.declared.post.Post.{Post}
use Rattle.hub_mail.specs.Posts.{of_board, RiseByNumber, IsAbove}

abbrev pub board_of : Post → ℕ
board_of post = post.key.board.0

pub first_here : (board : ℕ) (post : Post) (posts : List Post) → board_of post ≡ board →
    of_board board (post ∷ posts) ≡ post ∷ of_board board posts
first_here board post posts is =
    ap (λ b. cond b (post ∷ of_board board posts) (of_board board posts)) (eq-eqb (board_of post) board is)

pub first_else : (board : ℕ) (post : Post) (posts : List Post) → board_of post ≢ board →
    of_board board (post ∷ posts) ≡ of_board board posts
first_else board post posts other =
    ap (λ b. cond b (post ∷ of_board board posts) (of_board board posts)) (ne_eqb (board_of post) board other)

pub of_here : (board : ℕ) (post : Post) (all : List Post) → board_of post ≡ board →
    of_board board (all ++ post ∷ []) ≡ of_board board all ++ post ∷ []
of_here board post all is =
    filter-append (λ p. board_of p == board) all (post ∷ [])
    ∙ ap (λ l. of_board board all ++ l) (first_here board post [] is)

pub of_else : (board : ℕ) (post : Post) (all : List Post) → board_of post ≢ board →
    of_board board (all ++ post ∷ []) ≡ of_board board all
of_else board post all other =
    filter-append (λ p. board_of p == board) all (post ∷ [])
    ∙ ap (λ l. of_board board all ++ l) (first_else board post [] other)
    ∙ append-nil (of_board board all)

-- the posts of a board among those of one
pub of_same : (board : ℕ) (posts : List Post) → of_board board (of_board board posts) ≡ of_board board posts
of_same board [] = refl
of_same board (p ∷ ps) = elim (cases_eq (board_of p) board) [
  | inl is ↦
      let first = first_here board p ps is in
      ap (of_board board) first ∙ first_here board p (of_board board ps) is
      ∙ ap (λ l. p ∷ l) (of_same board ps) ∙ sym first
  | inr other ↦
      let first = first_else board p ps other in
      ap (of_board board) first ∙ of_same board ps ∙ sym first
]

pub of_other : (board other : ℕ) (posts : List Post) → board ≢ other → of_board other (of_board board posts) ≡ []
of_other board other [] apart = refl
of_other board other (p ∷ ps) apart = elim (cases_eq (board_of p) board) [
  | inl is ↦
      ap (of_board other) (first_here board p ps is)
      ∙ first_else other p (of_board board ps) (λ e. apart (sym is ∙ e)) ∙ of_other board other ps apart
  | inr away ↦ ap (of_board other) (first_else board p ps away) ∙ of_other board other ps apart
]

-- in a list that rises, what is above the last is above all
above_all : (n : ℕ) (posts : List Post) → RiseByNumber posts → IsAbove n posts →
    (k : ℕ) (d : Post) → k < length posts → (get_or posts k d).key.number.0 < n
above_all n [] rising above k d less = absurd (omega arith)
above_all n (p ∷ []) rising above zero d less = above
above_all n (p ∷ []) rising above (suc k) d less = absurd (omega arith)
above_all n (p ∷ q ∷ ps) rising above zero d less =
    let first : p.key.number.0 < q.key.number.0 = rising 0 1 d (omega arith) (omega arith) in
    let later : RiseByNumber (q ∷ ps) = λ i j e ij jl. rising (suc i) (suc j) e (omega arith) (omega arith) in
    let second : q.key.number.0 < n = above_all n (q ∷ ps) later above 0 d (omega arith) in
    omega arith
above_all n (p ∷ q ∷ ps) rising above (suc k) d less =
    above_all n (q ∷ ps) (λ i j e ij jl. rising (suc i) (suc j) e (omega arith) (omega arith)) above k d (omega arith)

pub rise_more : (posts : List Post) (post : Post) → RiseByNumber posts → IsAbove post.key.number.0 posts →
    RiseByNumber (posts ++ post ∷ [])
rise_more posts post rising above =
    all_pairs_push (λ (a : Post) (b : Post). a.key.number.0 < b.key.number.0) posts post rising
    (above_all post.key.number.0 posts rising above)
