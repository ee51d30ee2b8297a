use Rattle.std.proofs.Common.{ℕ, ◌<◌}
use Rattle.std.specs.Prelude.{slice_index_or}
use Rattle.rv_hart.specs.Core.{initial}
use Rattle.rv_hart.specs.HartState.{state_of}
use Rattle.board_space.specs.Parts.{IsStateOfHart}
use Rattle.board_space.proofs.state.are_harts.Given as goal

abbrev pub invariant-loop-number : goal.invariant-loop-number
invariant-loop-number l =
    (k : ℕ) → k < l.number → IsStateOfHart l.letters k (slice_index_or l.harts k (state_of initial))
