-- A board's posts go out by its pass.
use Rattle.std.proofs.Common.{◌≡◌, ◌∙◌, ℕ, ◌+◌, ◌-◌, ◌<◌, List, [], ◌∷◌, ◌++◌, length, get_or, map, drop}
use Rattle.std.proofs.Common.{All, Option, Some, None, IfSome, refl, sym, ap, subst, append_assoc, arith}
use Rattle.std.specs.List.{last_or, remove}
use Rattle.std.proofs.lemmas.List.{append-nil, length-append}
use Rattle.std.proofs.lemmas.List.Elements.{All-append, All-cons, All-nil, All-push, All-tail, All-weaker}
use Rattle.std.proofs.lemmas.List.Edits.{remove-append_right}
use Rattle.std.proofs.Math.ListN.{get_or-append}
use Rattle.std.proofs.Math.Seq.{get_or-append_seam}
use Rattle.std.proofs.lemmas.List.Quantifiers.{all_pairs_push, all_pairs_remove}
use Rattle.board.specs.Numbered.{IsNumbered}
use Rattle.board.specs.Numbers.{Numbers}
use Rattle.board.specs.View.{State}
use Rattle.dev_core.specs.declared.post.Post.{Post}
use Rattle.hub_mail.specs.Pass.{Pass}
use Rattle.hub_mail.specs.Posts.{IsAbove, RiseByNumber}
use Rattle.lab_num.specs.Numbered.{AreNumbered}
use Rattle.time_handle.specs.Grant.{Grant}
use Rattle.board_job.specs.Inner.Posting.{MayPost}
use Rattle.board_job.specs.Inner.Room.{IsPaid}

-- the number of each is below this one
abbrev AreBelow : ℕ → List Post → Type 0
AreBelow n posts = All (λ post. post.key.number.0 < n) posts

abbrev AreOf : ℕ → List Post → Type 0
AreOf board posts = All (λ post. post.key.board.0 ≡ board) posts

-- ---- more posts of the board

one_more : (posts : List Post) (post : Post) (n : ℕ) → RiseByNumber posts → AreBelow n posts → post.key.number.0 ≡ n →
    RiseByNumber (posts ++ post ∷ []) × AreBelow (n + 1) (posts ++ post ∷ [])
one_more posts post n rising below is = (
  all_pairs_push (λ (a : Post) (b : Post). a.key.number.0 < b.key.number.0) posts post rising
      (λ k d less. let lower : (get_or posts k d).key.number.0 < n = below k d less in omega (arith, lower, is)),
  All-push (λ (p : Post). p.key.number.0 < n + 1) posts post
      (All-weaker (λ (p : Post). p.key.number.0 < n) (λ (p : Post). p.key.number.0 < n + 1) (λ p less. omega arith)
      posts below)
      (omega (arith, is)),
)

-- posts that are numbered one after another, from above all that were there
more : (posts new : List Post) (board n : ℕ) → RiseByNumber posts → AreBelow n posts →
    AreNumbered board n (map (λ post. post.key) new) →
    RiseByNumber (posts ++ new) × AreBelow (n + length new) (posts ++ new)
more posts [] board n rising below are =
    let same = sym (append-nil posts) in
    let none : n ≡ n + 0 = omega arith in (
      subst RiseByNumber same rising,
      subst (λ (x : ℕ × List Post). AreBelow x.0 x.1) (λ i. (none i, same i)) below,
    )
more posts (p ∷ ps) board n rising below are =
    let one = one_more posts p n rising below are.1 in
    let rest = more (posts ++ p ∷ []) ps board (n + 1) one.0 one.1 are.2 in
    let same = append_assoc posts (p ∷ []) ps in
    let count : n + 1 + length ps ≡ n + length (p ∷ ps) = omega arith in (
      subst RiseByNumber same rest.0,
      subst (λ (x : ℕ × List Post). AreBelow x.0 x.1) (λ i. (count i, same i)) rest.1,
    )

all_of : (new : List Post) (board n : ℕ) → AreNumbered board n (map (λ post. post.key) new) → AreOf board new
all_of [] board n are = All-nil (λ (p : Post). p.key.board.0 ≡ board)
all_of (p ∷ ps) board n are =
    All-cons (λ (q : Post). q.key.board.0 ≡ board) p ps are.0 (all_of ps board (n + 1) are.2)

-- a board that has made more
pub turn_keeps : (old : Numbers) (n : ℕ) (run : State) (unsent : List Post) (pass : Pass) → MayPost old unsent pass →
    IsNumbered old n run → MayPost run.view.numbers (unsent ++ run.posts) pass
turn_keeps old n run unsent pass may is =
    let all = more (pass.posted ++ unsent) run.posts old.number old.posted may.rising may.below is.post_keys in
    let same = append_assoc pass.posted unsent run.posts in record {
      board = may.board ∙ sym is.number;
      own = subst (λ (b : ℕ). AreOf b (unsent ++ run.posts)) (sym is.number)
          (All-append (λ (p : Post). p.key.board.0 ≡ old.number) unsent run.posts may.own
          (all_of run.posts old.number old.posted is.post_keys));
      rising = subst RiseByNumber same all.0;
      below = subst (λ (x : ℕ × List Post). AreBelow x.0 x.1) (λ i. (sym is.posted i, same i)) all.1;
    }

-- ---- a post less

removed_is : (front rest : List Post) (post : Post) → remove (front ++ post ∷ rest) (length front) ≡ front ++ rest
removed_is front rest post =
    let here : length front - length front ≡ 0 = omega arith in
    remove-append_right front (post ∷ rest) (length front) (length front) refl (omega arith)
    ∙ ap (λ i. front ++ remove (post ∷ rest) i) here

without : (front rest : List Post) (post : Post) → RiseByNumber (front ++ post ∷ rest) → RiseByNumber (front ++ rest)
without front rest post rising =
    subst RiseByNumber (removed_is front rest post)
    (all_pairs_remove (λ (a : Post) (b : Post). a.key.number.0 < b.key.number.0) (front ++ post ∷ rest) (length front)
    (omega (arith, length-append front (post ∷ rest))) rising)

below_without : (n : ℕ) (front rest : List Post) (post : Post) → AreBelow n (front ++ post ∷ rest) →
    AreBelow n (front ++ rest)
below_without n [] rest post below = All-tail (λ (p : Post). p.key.number.0 < n) post rest below
below_without n (p ∷ front) rest post below =
    All-cons (λ (q : Post). q.key.number.0 < n) p (front ++ rest) (below 0 p (omega arith))
    (below_without n front rest post (All-tail (λ (q : Post). q.key.number.0 < n) p (front ++ post ∷ rest) below))

fewer : (n : Numbers) (unsent : List Post) (pass : Pass) → MayPost n unsent pass → MayPost n (drop 1 unsent) pass
fewer n [] pass may = may
fewer n (p ∷ ps) pass may = record {
  board = may.board;
  own = All-tail (λ (q : Post). q.key.board.0 ≡ n.number) p ps may.own;
  rising = without pass.posted ps p may.rising;
  below = below_without n.posted pass.posted ps p may.below;
}

pub one_dropped : (b b' : State) (g : Grant) (pass : Pass) →
    IsPaid b.view.numbers g × MayPost b.view.numbers b.posts pass → b' ≡ record b { posts = drop 1 b.posts } →
    IsPaid b'.view.numbers g × MayPost b'.view.numbers b'.posts pass
one_dropped b b' g pass holds is = rw is (holds.0, fewer b.view.numbers b.posts pass holds.1)

-- ---- a post that goes out

above_last : (posts : List Post) (before : Option Post) (n : ℕ) → IfSome before (λ last. last.key.number.0 < n) →
    AreBelow n posts → IfSome (last_or before posts) (λ last. last.key.number.0 < n)
above_last [] before n first below = first
above_last (p ∷ ps) before n first below =
    above_last ps (Some p) n (below 0 p (omega arith)) (All-tail (λ (q : Post). q.key.number.0 < n) p ps below)

lower : (front rest : List Post) (post : Post) → RiseByNumber (front ++ post ∷ rest) → AreBelow post.key.number.0 front
lower front rest post rising k d less =
    let both = rising k (length front) d less (omega (arith, length-append front (post ∷ rest))) in
    subst (λ (x : Post × Post). x.0.key.number.0 < x.1.key.number.0)
    (λ i. (get_or-append front (post ∷ rest) d k less i, get_or-append_seam front post rest d i)) both

-- the next post of the board may be posted
pub next_above : (n : Numbers) (post : Post) (rest : List Post) (pass : Pass) → MayPost n (post ∷ rest) pass →
    IsAbove post.key.number.0 pass.posted
next_above n post rest pass may =
    above_last pass.posted None post.key.number.0 tt (lower pass.posted rest post may.rising)

pub next_own : (n : Numbers) (post : Post) (rest : List Post) (pass : Pass) → MayPost n (post ∷ rest) pass →
    post.key.board.0 ≡ pass.board
next_own n post rest pass may = may.own 0 post (omega arith) ∙ sym may.board

-- and then it is one of the posted
pub post_keeps : (n : Numbers) (post : Post) (rest : List Post) (pass : Pass) → MayPost n (post ∷ rest) pass →
    MayPost n rest (record pass { posted = pass.posted ++ post ∷ [] })
post_keeps n post rest pass may =
    let same = sym (append_assoc pass.posted (post ∷ []) rest) in record {
      board = may.board;
      own = All-tail (λ (q : Post). q.key.board.0 ≡ n.number) post rest may.own;
      rising = subst RiseByNumber same may.rising;
      below = subst (AreBelow n.posted) same may.below;
    }

-- a board that has made nothing yet, with a new pass
pub none_posted : (n : Numbers) (unsent : List Post) (pass : Pass) → unsent ≡ [] → pass.posted ≡ [] →
    pass.board ≡ n.number → MayPost n unsent pass
none_posted n unsent pass none new board =
    let empty : pass.posted ++ unsent ≡ [] = λ i. new i ++ none i in record {
      board = board;
      own = subst (AreOf n.number) (sym none) (All-nil (λ (p : Post). p.key.board.0 ≡ n.number));
      rising = subst RiseByNumber (sym empty) (λ i j d ij jl. absurd (omega arith));
      below = subst (AreBelow n.posted) (sym empty) (All-nil (λ (p : Post). p.key.number.0 < n.posted));
    }
