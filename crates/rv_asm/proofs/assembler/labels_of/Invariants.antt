-- The places of the lines so far are in the map.
use Rattle.std.proofs.Common.{◌*◌, ◌≤◌}
use Rattle.rv_asm.specs.Places.{place_in}
use Rattle.rv_asm.proofs.ProgramLemmas.{texts, FindsPlaces}
use Rattle.rv_asm.proofs.assembler.labels_of.Given as goal

abbrev pub invariant-loop-line : goal.invariant-loop-line
invariant-loop-line l = record {
  fits : l.address ≤ 4 * l.line-index;
  places : FindsPlaces (texts l.lines) l.line-index l.address (place_in l.labels);
}
