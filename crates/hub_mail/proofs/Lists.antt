-- The posts of each board, where the lists of the boards are put one after another.
use Rattle.std.proofs.Common.{◌≡◌, ◌≢◌, ◌∙◌, ℕ, zero, suc, ◌+◌, ◌<◌, ◌==◌, List, [], ◌∷◌, ◌++◌, get_or, flat_map, All}
use Rattle.std.proofs.Common.{refl, sym, ap, subst, arith}
use Rattle.std.proofs.lemmas.List.{append-nil}
use Rattle.std.proofs.lemmas.List.Elements.{All-tail, filter-append}
use Rattle.dev_core.specs.declared.post.Post.{Post}
use Rattle.hub_mail.specs.Posts.{of_board, list_of}
use Rattle.hub_mail.proofs.OfBoard.{board_of, first_here, first_else}

abbrev AreOf : ℕ → List Post → Type 0
AreOf board posts = All (λ p. p.key.board.0 ≡ board) posts

all_here : (board : ℕ) (posts : List Post) → AreOf board posts → of_board board posts ≡ posts
all_here board [] are = refl
all_here board (p ∷ ps) are =
    first_here board p ps (are 0 p (omega arith))
    ∙ ap (λ l. p ∷ l) (all_here board ps (All-tail (λ q. q.key.board.0 ≡ board) p ps are))

all_else : (board other : ℕ) (posts : List Post) → other ≢ board → AreOf other posts → of_board board posts ≡ []
all_else board other [] apart are = refl
all_else board other (p ∷ ps) apart are =
    let is : board_of p ≡ other = are 0 p (omega arith) in
    first_else board p ps (λ e. apart (sym is ∙ e))
    ∙ all_else board other ps apart (All-tail (λ q. q.key.board.0 ≡ other) p ps are)

abbrev pub joined : List (List Post) → List Post
joined lists = flat_map (λ list. list) lists

-- the lists of the boards from number n on
record OfEach (n board : ℕ) (lists : List (List Post)) : Type 0 where
  at : (k : ℕ) → board ≡ n + k → of_board board (joined lists) ≡ get_or lists k []
  below : board < n → of_board board (joined lists) ≡ []

of_each : (n board : ℕ) (lists : List (List Post)) → ((k : ℕ) → AreOf (n + k) (get_or lists k [])) →
    OfEach n board lists
of_each n board [] each = record { at = λ k is. refl; below = λ less. refl }
of_each n board (l ∷ ls) each =
    let parts = filter-append (λ p. board_of p == board) l (joined ls) in
    let first : AreOf n l = subst (λ m. AreOf m l) (add-none n) (each 0) in
    let rest = of_each (n + 1) board ls (λ k. subst (λ m. AreOf m (get_or ls k [])) (one_on n k) (each (suc k))) in
    let skip : n ≢ board → of_board board (l ++ joined ls) ≡ of_board board (joined ls) =
    λ apart. parts ∙ ap (λ m. m ++ of_board board (joined ls)) (all_else board n l apart first) in record {
      at = at l ls parts first rest skip;
      below = λ less. skip (λ e. omega arith) ∙ rest.below (omega arith);
    }
  where
    add-none : (n : ℕ) → n + 0 ≡ n
    add-none n = omega arith

    one_on : (n k : ℕ) → n + suc k ≡ n + 1 + k
    one_on n k = omega arith

    at : (l : List Post) (ls : List (List Post)) →
        of_board board (l ++ joined ls) ≡ of_board board l ++ of_board board (joined ls) → AreOf n l →
        OfEach (n + 1) board ls → (n ≢ board → of_board board (l ++ joined ls) ≡ of_board board (joined ls)) →
        (k : ℕ) → board ≡ n + k → of_board board (l ++ joined ls) ≡ get_or (l ∷ ls) k []
    at l ls parts first rest skip zero is =
        let here : n ≡ board = omega arith in
        let own = all_here board l (subst (λ m. AreOf m l) here first) in
        let none = rest.below (omega arith) in
        parts ∙ (λ i. own i ++ none i) ∙ append-nil l
    at l ls parts first rest skip (suc k) is = skip (λ e. omega arith) ∙ rest.at k (omega arith)

pub joined_is : (board : ℕ) (lists : List (List Post)) → ((k : ℕ) → AreOf k (list_of k lists)) →
    of_board board (joined lists) ≡ list_of board lists
joined_is board lists each =
    (of_each 0 board lists (λ k. subst (λ m. AreOf m (get_or lists k [])) (from_none k) (each k))).at board
    (from_none board)
  where
    from_none : (k : ℕ) → k ≡ 0 + k
    from_none k = omega arith
