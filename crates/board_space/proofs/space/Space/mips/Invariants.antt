use Rattle.std.proofs.Common.{◌≡◌, ℕ, ◌<◌, ◌≤◌, length}
use Rattle.std.specs.Prelude.{slice_index}
use Rattle.board_space.specs.Lines.{mip_of}
use Rattle.board_space.proofs.space.Space.mips.Given as goal

-- Those of the processors so far are read.
abbrev pub invariant-loop-hart : goal.invariant-loop-hart
invariant-loop-hart g l = record {
  size : length l.mips ≡ 4;
  few : l.harts ≤ 4;
  read : (k : ℕ) → k < l.hart → slice_index l.mips k ≡ mip_of l.self l.timer k;
}
