-- The slots of a grant on a board, as the slots of a job.
use Rattle.std.specs.Prelude.{ℕ, zero, suc, ◌+◌, List, [], ◌∷◌, Option, slice_get}
use Rattle.dev_core.specs.declared.post.Post.{Post}
use Rattle.board.specs.Idle.{passed}
use Rattle.board.specs.View.{View, State, after}
use Rattle.board.specs.Stretch.{stretch}
use Rattle.floor_core.specs.Job.{Job}
use Rattle.hub_mail.specs.Pass.{Pass, fresh}
use Rattle.time_handle.specs.Grant.{Grant, left}

-- a grant of which so many slots more are used
abbrev pub spent : Grant → ℕ → Grant
spent g n = record g { used = g.used + n }

-- a board after the next slots of its grant
abbrev pub stepped : State → Grant → ℕ → State
stepped b g n = after b (stretch b.view g.from g.used n)

-- what the next slot of the grant comes to
abbrev pub next : View → Grant → State
next v g = stretch v g.from g.used 1

-- the post, or none, of each of the next n slots
unfoldable pub slots_to_come : View → Grant → ℕ → List (Option Post)
slots_to_come v g zero = []
slots_to_come v g (suc n) = slice_get (next v g).posts 0 ∷ slots_to_come (next v g).view (spent g 1) n

-- a board whose posts are set aside
abbrev pub unposted : State → State
unposted b = record b { posts = [] }

-- a pass without what it has posted: its mail and its board
abbrev pub unused : Pass → Pass
unused pass = fresh pass.mail pass.board

-- the job of a board that has a grant and a pass
abbrev pub job_of : State → Grant → Pass → Job ((State × Grant) × Pass)
job_of b g pass = record {
  state = ((unposted b, g), unused pass);
  coming = slots_to_come b.view g (left g);
  unsent = b.posts;
}

-- a board and its grant after the next slot, with no post more
abbrev pub moved : State × Grant → State × Grant
moved s = (record (stepped s.0 s.1 1) { posts = s.0.posts }, spent s.1 1)

-- and after the next n slots, one after another
unfoldable pub moved_by : State × Grant → ℕ → State × Grant
moved_by s zero = s
moved_by s (suc n) = moved_by (moved s) n

-- a board and its grant after the next n slots, where these are idle
abbrev pub idled : (State × Grant) × Pass → ℕ → (State × Grant) × Pass
idled s n = ((record s.0.0 { view = passed s.0.0.view n }, spent s.0.1 n), s.1)

-- the board and the grant say what comes; the list is not asked. The pass stays that of its mail and board
abbrev pub state_after : (State × Grant) × Pass → List (Option Post) → ℕ → (State × Grant) × Pass
state_after s coming n = (moved_by s.0 n, s.1)
