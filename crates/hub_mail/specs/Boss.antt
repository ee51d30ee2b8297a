-- What contracts see of a boss.
use Rattle.std.specs.Prelude.{ℕ, ◌==◌, if◌then◌else◌, List, [], ◌∷◌}
use Rattle.dev_core.specs.declared.post.Post.{Post}
use Rattle.hub_mail.specs.declared.view.Sent.{Sent}
use Rattle.hub_mail.specs.Pass.{MailId, Pass}

-- its mail, how many passes it has made, and what each pass that it has taken in had posted
pub record Boss : Type 0 where
  pub mail : MailId
  pub count : ℕ
  pub taken : List Sent

-- what a pass has posted, with its board
abbrev pub sent_by : Pass → Sent
sent_by pass = record { board = pass.board; posts = pass.posted }

-- what the pass of one board had posted, or nothing where no pass of it was taken in
abbrev pub posted_by : ℕ → List Sent → List Post
posted_by board [] = []
posted_by board (sent ∷ others) = if board == sent.board then sent.posts else posted_by board others
