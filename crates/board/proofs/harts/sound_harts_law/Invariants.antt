use Rattle.std.proofs.Common.{ℕ, ◌<◌}
use Rattle.std.specs.Prelude.{slice_index_or}
use Rattle.rv_hart.specs.Core.{initial}
use Rattle.rv_hart.specs.HartState.{state_of, IsHartState}
use Rattle.board.proofs.harts.sound_harts_law.Given as goal

abbrev pub invariant-loop-hart : goal.invariant-loop-hart
invariant-loop-hart l =
    (k : ℕ) → k < l.hart-index → IsHartState (state_of (slice_index_or l.harts k initial))
