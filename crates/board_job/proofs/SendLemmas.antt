-- One post more is sent.
use Rattle.std.proofs.Common.{◌≡◌, ◌≢◌, ◌∙◌, ◌<◌, List, [], ◌∷◌, ◌++◌, length, drop, Some, slice_get}
use Rattle.std.proofs.Common.{append_assoc, append-nil, arith, refl, sym, ap, subst}
use Rattle.dev_core.specs.declared.post.Post.{Post}
use Rattle.board.specs.View.{State}
use Rattle.hub_mail.specs.Pass.{Pass}
use Rattle.hub_mail.specs.Posts.{IsAbove}
use Rattle.board_job.specs.Inner.Posting.{MayPost}
use Rattle.board_job.proofs.PostLemmas.{next_above, next_own, post_keeps}

-- between two posts: those that have gone out were the first of the board, and all else is as it was
pub record Sending (start : State) (first : Pass) (board : State) (pass : Pass) : Type 0 where
  pub rest : board ≡ record start { posts = board.posts }
  pub front : (front : List Post) × (start.posts ≡ front ++ board.posts) ×
      (pass ≡ record first { posted = first.posted ++ front })
  pub may : MayPost board.view.numbers board.posts pass

pub begins : (board : State) (pass : Pass) → MayPost board.view.numbers board.posts pass →
    Sending board pass board pass
begins board pass may = record {
  rest = refl;
  front = ([], refl, ap (λ l. record pass { posted = l }) (sym (append-nil pass.posted)));
  may = may;
}

pub some_left : (posts : List Post) (p : Post) → Some p ≡ slice_get posts 0 → posts ≢ []
some_left [] p is = absurd (cc)
some_left (x ∷ posts) p is = λ none. cc

pub fewer_left : (posts rest : List Post) (p : Post) →
    Some p ≡ slice_get posts 0 → rest ≡ drop 1 posts → length rest < length posts
fewer_left [] rest p is dropped = absurd (cc)
fewer_left (x ∷ posts) rest p is dropped = rw dropped (omega arith)

first_is : (posts : List Post) (p : Post) → Some p ≡ slice_get posts 0 → posts ≡ p ∷ drop 1 posts
first_is [] p is = absurd (cc)
first_is (x ∷ posts) p is = let same : p ≡ x = cc in ap (λ q. q ∷ posts) (sym same)

module _ (start : State) (first : Pass) (board : State) (pass : Pass) (p : Post)
    (next : Some p ≡ slice_get board.posts 0) (so_far : Sending start first board pass) where
  next_first : MayPost board.view.numbers (p ∷ drop 1 board.posts) pass
  next_first = subst (λ l. MayPost board.view.numbers l pass) (first_is board.posts p next) so_far.may

  pub may_go : (p.key.board.0 ≡ pass.board) × IsAbove p.key.number.0 pass.posted
  may_go = (
    next_own board.view.numbers p (drop 1 board.posts) pass next_first,
    next_above board.view.numbers p (drop 1 board.posts) pass next_first,
  )

  -- the first of the posts that are left comes to the end of those before it
  pub goes : (board' : State) (pass' : Pass) → board' ≡ record board { posts = drop 1 board.posts } →
      pass' ≡ record pass { posted = pass.posted ++ p ∷ [] } → Sending start first board' pass'
  goes board' pass' dropped posted =
      let front = so_far.front.0 in
      let sent : pass.posted ≡ first.posted ++ front = ap (λ (q : Pass). q.posted) so_far.front.2 in
      let now : Sending start first (record board { posts = drop 1 board.posts })
      (record pass { posted = pass.posted ++ p ∷ [] }) = record {
        rest = ap (λ (b : State). record b { posts = drop 1 board.posts }) so_far.rest;
        front = (
          front ++ p ∷ [],
          so_far.front.1 ∙ ap (λ l. front ++ l) (first_is board.posts p next)
              ∙ sym (append_assoc front (p ∷ []) (drop 1 board.posts)),
          ap (λ (q : Pass). record q { posted = q.posted ++ p ∷ [] }) so_far.front.2
              ∙ ap (λ l. record first { posted = l }) (append_assoc first.posted front (p ∷ [])),
        );
        may = post_keeps board.view.numbers p (drop 1 board.posts) pass next_first;
      } in
      subst (λ (x : State × Pass). Sending start first x.0 x.1) (λ i. (sym dropped i, sym posted i)) now
