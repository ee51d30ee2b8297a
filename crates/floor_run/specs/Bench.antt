-- What contracts see of a bench and of a hand.
use Rattle.std.specs.Prelude.{◌≡◌, List, None}
use Rattle.atomic_table.specs.Seated.{TableId}
use Rattle.floor_run.specs.declared.view.View.{View}

-- which bench it is, and the jobs that were put on it
pub record BenchModel (J : Type 0) : Type 0 where
  pub name : TableId
  pub starts : List J

-- the bench that the hand is of, and what it knows of that
pub record HandModel (J : Type 0) : Type 0 where
  pub bench : TableId
  pub sees : View J

module _ {J : Type 0} where
  -- a hand of the bench
  abbrev pub IsHandOf : BenchModel J → HandModel J → Type 0
  IsHandOf bench hand = (hand.bench ≡ bench.name) × (hand.sees.starts ≡ bench.starts)

  abbrev pub HoldsNothing : HandModel J → Type 0
  HoldsNothing hand = hand.sees.held ≡ None
