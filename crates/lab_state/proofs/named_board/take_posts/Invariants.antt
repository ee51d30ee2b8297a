-- Each post is in the list or still on the board.
use Rattle.std.proofs.Common.{◌≡◌, ◌++◌, length, false}
use Rattle.lab_state.proofs.named_board.take_posts.Given as goal

abbrev pub invariant-loop-post : goal.invariant-loop-post
invariant-loop-post g l = record {
  board : l.board ≡ record l.fn.board { posts = l.board.posts };
  posts : l.starved ≡ false → l.posts.items ++ l.board.posts ≡ l.fn.posts.items ++ l.fn.board.posts;
}

abbrev pub decreases-loop-post : goal.decreases-loop-post
decreases-loop-post g l = length l.board.posts
