-- The operands are read by their shape.
use Rattle.std.proofs.Common.{◌∙◌}
use Rattle.rv_asm.specs.Places.{place_in}
use Rattle.rv_asm.specs.Operands.{directive_word}
use Rattle.rv_asm.proofs.ReadingLemmas.{reads}
use Rattle.rv_asm.proofs.lines.word_by.Goals as goal

pub returns-in-Word : goal.returns-in-Word
unfolding directive_word
returns-in-Word c =
    let is = c.in-Word.is in
    rw is c.value_of.ensures

pub returns-in-Instruction : goal.returns-in-Instruction
returns-in-Instruction c =
    let is = c.in-Instruction.is in
    rw (is, ← c.shape_of.ensures)
    (c.operands_word.ensures ∙
    reads (place_in c.args.labels.now) c.args.here c.in-Instruction.op c.args.text.now c.shape_of.result)
