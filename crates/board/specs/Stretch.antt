-- Slots one after another, each in the microsecond that the time framework gives it.
use Rattle.std.specs.Prelude.{◌≡◌, ℕ, zero, suc, ◌+◌, ◌<◌, List, [], ◌∷◌}
use Rattle.lab_num.specs.Paid.{slot_at}
use Rattle.board.specs.declared.board.Turn.{Turn}
use Rattle.board.specs.declared.board.Turn.TheVariants.{Used, Starved}
use Rattle.board.specs.View.{View, State, quiet, after}
use Rattle.board.specs.Slot.{slot}

-- what so many slots have come to, and then one more in this microsecond
abbrev pub go_on : State → ℕ → State
go_on run t = after run (slot run.view t)

-- the slots `a` to `a + n - 1` of the grant that begins at `from`: the board after them, and what they have made
unfoldable pub stretch : View → ℕ → ℕ → ℕ → State
stretch v from a zero = quiet v
stretch v from a (suc n) = go_on (stretch v from a n) (slot_at from v.numbers.speed (a + n))

-- A turn of `n` slots takes all of them, or stops after exactly so many for want of memory.
abbrev pub IsTurn : State → ℕ → ℕ → ℕ → Turn → State → Type 0
IsTurn old from a n (Used m) new = (m ≡ n) × (new ≡ after old (stretch old.view from a n))
IsTurn old from a n (Starved m) new = (m < n) × (new ≡ after old (stretch old.view from a m))

-- turns of these lengths, one after another, from slot `a` of the grant on: the board after them, and what they have
-- made
abbrev pub in_turns : View → ℕ → ℕ → List ℕ → State
in_turns v from a [] = quiet v
in_turns v from a (n ∷ turns) = after (stretch v from a n) (in_turns (stretch v from a n).view from (a + n) turns)
