use Rattle.std.proofs.Common.{◌≡◌, ◌<◌, ℕ, length}
use Rattle.std.specs.Prelude.{slice_index_or, None}
use Rattle.board.proofs.board.saved.reserve_all.Given as goal

-- Those so far have reserved their words.
abbrev pub invariant-loop-hart : goal.invariant-loop-hart
invariant-loop-hart l = record {
  same : length l.watch ≡ length l.initial.watch;
  each : (k : ℕ) → k < l.hart → slice_index_or l.watch k None ≡ slice_index_or l.words k None;
}
