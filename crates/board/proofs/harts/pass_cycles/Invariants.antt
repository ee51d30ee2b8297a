use Rattle.std.proofs.Common.{◌≡◌, ◌<◌, ◌^◌, ℕ, length, nat_lt}
use Rattle.std.specs.Prelude.{if◌then◌else◌, slice_index_or}
use Rattle.rv_hart.specs.Core.{initial}
use Rattle.board.specs.Idle.{core_passed, turns_of}
use Rattle.board.proofs.harts.pass_cycles.Given as goal

-- Cycles of those so far have passed.
abbrev pub invariant-loop-number : goal.invariant-loop-number
invariant-loop-number l = record {
  same : length l.harts ≡ length l.initial.harts;
  each : (k : ℕ) → k < length l.initial.harts →
      slice_index_or l.harts k initial
      ≡ (if nat_lt k l.number then
      core_passed (turns_of (length l.initial.harts) l.next l.slots k) (slice_index_or l.initial.harts k initial)
      else slice_index_or l.initial.harts k initial);
  fits : (k : ℕ) → k < l.number → (slice_index_or l.initial.harts k initial).mcycle < 2 ^ 64;
}
