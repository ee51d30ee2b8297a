-- The words of the lines so far are made.
use Rattle.std.proofs.Common.{◌*◌, ◌≤◌}
use Rattle.rv_asm.specs.Places.{place_in}
use Rattle.rv_asm.proofs.ProgramLemmas.{texts, MakesWords}
use Rattle.rv_asm.proofs.assembler.words_of.Given as goal

abbrev pub invariant-loop-i : goal.invariant-loop-i
invariant-loop-i l = record {
  fits : l.address ≤ 4 * l.i;
  words : MakesWords (place_in l.labels) (texts l.lines) l.i l.address l.words.items;
}
