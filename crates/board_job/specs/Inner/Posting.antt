-- What holds of every board with its pass.
use Rattle.std.specs.Prelude.{◌≡◌, ◌<◌, List, ◌++◌, All}
use Rattle.board.specs.Numbers.{Numbers}
use Rattle.dev_core.specs.declared.post.Post.{Post}
use Rattle.hub_mail.specs.Pass.{Pass}
use Rattle.hub_mail.specs.Posts.{RiseByNumber}

-- The pass is the board's, and so are its unsent posts. The numbers rise over what is posted and then what is unsent,
-- and the board's next post has a higher one than all of these. They need not rise by one: a post may be dropped.
pub record MayPost (n : Numbers) (unsent : List Post) (pass : Pass) : Type 0 where
  pub board : pass.board ≡ n.number
  pub own : All (λ post. post.key.board.0 ≡ n.number) unsent
  pub rising : RiseByNumber (pass.posted ++ unsent)
  pub below : All (λ post. post.key.number.0 < n.posted) (pass.posted ++ unsent)
