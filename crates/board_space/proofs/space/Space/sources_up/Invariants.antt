use Rattle.std.proofs.Common.{◌≡◌, ℕ, ◌<◌, ◌^◌, take}
use Rattle.std.specs.List.{list_any}
use Rattle.plic.specs.Sources.{has}
use Rattle.board_space.specs.Lines.{brings_source_up}
use Rattle.board_space.proofs.space.Space.sources_up.Given as goal

-- The set has what the wires so far bring up.
abbrev pub invariant-loop-wire : goal.invariant-loop-wire
invariant-loop-wire g l = record {
  fits : l.set < 2 ^ 128;
  each : (s : ℕ) → s < 128 → has l.set s ≡ list_any (brings_source_up l.self s) (take l.wire-index l.wires);
}
