-- A board with its grant and its pass.
use Rattle.board.specs.View.{State}
use Rattle.time_handle.specs.Grant.{Grant}
use Rattle.hub_mail.specs.Pass.{Pass}

-- a board, the grant that pays its slots, and the pass by which it posts
pub record BoardJob : Type 0 where
  pub board : State
  pub grant : Grant
  pub pass : Pass
