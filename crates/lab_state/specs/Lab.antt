-- The laboratory between rounds.
use Rattle.std.specs.Prelude.{ℕ, Bool, List}
use Rattle.dev_core.specs.declared.post.Post.{Post}
use Rattle.lab_state.specs.Board.{Board}
use Rattle.lab_state.specs.Hub.{Hub}

-- The boards and the hubs in order of creation, the posts that wait until they are due, the time in microseconds, and
-- the quantum.
pub record Lab : Type 0 where
  pub boards : List Board
  pub hubs : List Hub
  pub pending : List Post
  pub now : ℕ
  pub quantum : ℕ

-- a laboratory, and whether it is spent: memory ran out inside a round or a run, or it was left so by a call
pub record Seen : Type 0 where
  pub lab : Lab
  pub spent : Bool
