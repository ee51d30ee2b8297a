-- No post is left.
use Rattle.std.proofs.Common.{◌≡◌, ◌∙◌, sym, ap, [], ◌++◌, None, slice_get}
use Rattle.std.proofs.lemmas.List.{append-nil}
use Rattle.board.specs.View.{State}
use Rattle.lab_state.proofs.named_board.take_posts.Goals as goal
use Rattle.lab_num.proofs.ListLemmas.{first_none}

empty :
    (now old : State) → now ≡ record old { posts = now.posts } → None ≡ slice_get now.posts 0 →
    now ≡ record old { posts = [] }
empty now old is end = is ∙ ap (λ posts. record old { posts = posts }) (first_none now.posts (sym end))

pub returns-then-starved-clause-board : goal.returns-then-starved-clause-board
returns-then-starved-clause-board g c =
    empty c.loop-post.board c.args.board.now c.loop-post.invariant.board c.in_default.ensures

pub returns-else-starved-clause-board : goal.returns-else-starved-clause-board
returns-else-starved-clause-board g c =
    empty c.loop-post.board c.args.board.now c.loop-post.invariant.board c.in_default.ensures

pub returns-else-starved-clause-posts : goal.returns-else-starved-clause-posts
returns-else-starved-clause-posts g c =
    sym (append-nil c.loop-post.posts.items)
    ∙ ap (λ posts. c.loop-post.posts.items ++ posts)
    (sym (first_none c.loop-post.board.posts (sym c.in_default.ensures)))
    ∙ c.loop-post.invariant.posts c.if-starved.false
