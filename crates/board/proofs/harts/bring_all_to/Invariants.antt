use Rattle.std.proofs.Common.{◌≡◌, ◌<◌, ℕ, length}
use Rattle.std.specs.Prelude.{slice_index_or}
use Rattle.rv_hart.specs.Core.{initial}
use Rattle.rv_hart.specs.HartState.{core_of, state_of}
use Rattle.board.proofs.harts.bring_all_to.Given as goal

-- Those so far are in their states.
abbrev pub invariant-loop-number : goal.invariant-loop-number
invariant-loop-number l = record {
  same : length l.harts ≡ length l.initial.harts;
  each : (k : ℕ) → k < l.number →
      slice_index_or l.harts k initial ≡ core_of (slice_index_or l.states k (state_of initial));
}
