-- The floor of one round: its boards, and the mail.
use Rattle.std.specs.Prelude.{ℕ, ◌==◌, Bool, false, List, [], map, filter, Option, None}
use Rattle.dev_core.specs.declared.post.Post.{Post}
use Rattle.floor_core.specs.declared.event.Mailed.{Mailed}
use Rattle.floor_core.specs.Job.{Job}

-- a board: its job, the worker that it is out with, or none where it is at home, and how many slots it has used
pub record Board (S : Type 0) : Type 0 where
  pub job : Job S
  pub worker : Option ℕ
  pub used : ℕ

-- a floor: the boards by number, the posts in order of arrival, and whether the round has ended
pub record Floor (S : Type 0) : Type 0 where
  pub boards : List (Board S)
  pub mail : List Mailed
  pub is_ended : Bool

-- a board at home that has used nothing
abbrev pub fresh : {S : Type 0} → Job S → Board S
fresh job = record { job = job; worker = None; used = 0 }

-- the floor as a round begins with these jobs
abbrev pub begun : {S : Type 0} → List (Job S) → Floor S
begun jobs = record { boards = map fresh jobs; mail = []; is_ended = false }

-- the posts in the mail that one board posted
abbrev pub posted_by : ℕ → List Mailed → List Post
posted_by board mail = map (λ m. m.post) (filter (λ m. m.by.0 == board) mail)
