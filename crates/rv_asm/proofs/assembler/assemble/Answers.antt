-- The places in the map are the places of the text's labels.
use Rattle.rv_asm.specs.Places.{place_in, HasPlaces}
use Rattle.rv_asm.specs.Program.{lines_of}
use Rattle.rv_asm.specs.Inner.Scan.{place_from}
use Rattle.rv_asm.proofs.ProgramLemmas.{lines_few}
use Rattle.rv_asm.proofs.Positions.{Assembles-from}
use Rattle.rv_asm.proofs.assembler.assemble.Goals as goal

pub labels_of-requires : goal.labels_of-requires
labels_of-requires c =
    rw c.deref.ensures.value (lines_few c.args.text.now c.in-Ok.lines.items (c.in-Ok.ensures {u = tt}) c.requires)

pub words_of-requires : goal.words_of-requires
words_of-requires c =
    rw c.deref-2.ensures.value (lines_few c.args.text.now c.in-Ok.lines.items (c.in-Ok.ensures {u = tt}) c.requires)

pub returns : goal.returns
returns c =
    let lines = c.in-Ok.ensures {u = tt} in
    let places : HasPlaces c.in-Ok-labels_of.labels (place_from 0 (lines_of c.args.text.now)) =
    rw (c.deref.ensures.value, lines) at (c.in-Ok-labels_of.ensures {u = tt}) in
    Assembles-from c.args.text.now (place_in c.in-Ok-labels_of.labels) c.words_of.result places
    (rw (c.deref-2.ensures.value, lines) at c.words_of.ensures)
