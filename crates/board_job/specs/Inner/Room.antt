-- What holds of every board with its grant.
use Rattle.std.specs.Prelude.{◌≡◌, ◌+◌, ◌<◌, ◌^◌}
use Rattle.board.specs.Numbers.{Numbers}
use Rattle.time_handle.specs.Grant.{Grant, left}

-- the grant is at the board's speed, and the counts of what the board makes do not reach their end in what is left
pub record IsPaid (n : Numbers) (g : Grant) : Type 0 where
  pub speed : g.speed ≡ n.speed
  pub posts : n.posted + left g < 2 ^ 64
  pub entries : n.entered + left g < 2 ^ 64
