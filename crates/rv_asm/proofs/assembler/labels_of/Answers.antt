-- A line more: its label has a place, or the line gives no word.
use Rattle.std.proofs.Common.{◌<◌, ◌∙◌, sym, length, arith}
use Rattle.rv_asm.specs.Places.{place_in}
use Rattle.rv_asm.proofs.ProgramLemmas.{texts, line_at, next_text, places_blank, places_more}
use Rattle.rv_asm.proofs.assembler.labels_of.Goals as goal
use Rattle.rv_asm.proofs.assembler.labels_of.Goals.{then-gives_word+in_ok-add_label_of, else-gives_word}

pub loop-line-preserved : goal.loop-line-preserved
loop-line-preserved c =
    let below : c.loop-line.line-index < length c.args.lines.now = omega arith in
    let next = next_text c.args.lines.now c.loop-line.line-index below in
    elim c.if-gives_word.branch [
      | then-gives_word+in_ok-add_label_of w ↦
          rw (w.labels-is, w.address-is)
          (record {
            fits = omega arith;
            places =
                places_more (texts c.args.lines.now) c.loop-line.line-index c.loop-line.address
                (line_at c.args.lines.now c.loop-line.line-index)
                (place_in c.loop-line.labels) (place_in w.add_label_of.new.labels) next
                (sym c.gives_word.ensures ∙ w.if-gives_word.true)
                (w.in_ok-add_label_of.ensures {u = tt}) c.loop-line.invariant.places;
          })
      | else-gives_word w ↦
          rw (w.labels-is, w.address-is)
          (record {
            fits = omega arith;
            places =
                places_blank (texts c.args.lines.now) c.loop-line.line-index c.loop-line.address
                (line_at c.args.lines.now c.loop-line.line-index)
                (place_in c.loop-line.labels) next (sym c.gives_word.ensures ∙ w.if-gives_word.false)
                c.loop-line.invariant.places;
          })
    ]
