-- A board of a laboratory.
use Rattle.std.specs.Prelude.{ℕ, List, Option}
use Rattle.board.specs.View.{View}

-- its name, and what stands under it: nothing as long as the board has no plan
pub record Board : Type 0 where
  pub name : List ℕ
  pub view : Option View
