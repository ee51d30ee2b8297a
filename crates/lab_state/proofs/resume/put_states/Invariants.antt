-- The boards so far are in their states, and the others are as they were.
use Rattle.std.proofs.Common.{◌≡◌, take}
use Rattle.lab_state.specs.Resumed.{resumed_board}
use Rattle.lab_state.specs.Inner.Lending.{each_by}
use Rattle.lab_state.proofs.resume.put_states.Given as goal

abbrev pub invariant-loop-n : goal.invariant-loop-n
invariant-loop-n g l = l.boards ≡ each_by resumed_board l.fn.boards (take l.n l.states)
