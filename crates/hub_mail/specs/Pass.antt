-- What contracts see of a pass.
use Rattle.std.specs.Prelude.{ℕ, List, [], map}
use Rattle.std.specs.List.{range_with_len}
use Rattle.std.specs.declared.alloc.Global.{Global}
use Rattle.crossbeam_queue.specs.SegTies.{SegId}
use Rattle.dev_core.specs.declared.post.Post.{Post}

-- which mail it is
abbrev pub MailId : Type 0
MailId = SegId Global

-- its mail, its board, and what it has posted, in order
pub record Pass : Type 0 where
  pub mail : MailId
  pub board : ℕ
  pub posted : List Post

-- a pass that has posted nothing
abbrev pub fresh : MailId → ℕ → Pass
fresh mail board = record { mail = mail; board = board; posted = [] }

-- the passes of the boards from 0 up to n, in order
abbrev pub fresh_passes : MailId → ℕ → List Pass
fresh_passes mail n = map (fresh mail) (range_with_len 0 n)
