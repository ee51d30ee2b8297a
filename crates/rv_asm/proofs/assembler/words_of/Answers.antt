-- A line more: its word, its fault, or nothing.
use Rattle.std.proofs.Common.{◌<◌, ◌∙◌, sym, length, arith}
use Rattle.std.proofs.lemmas.Result.{err_from_is_err_and}
use Rattle.rv_asm.specs.Places.{place_in}
use Rattle.rv_asm.proofs.ProgramLemmas.{texts, line_at, gives_fault, next_text, words_blank, words_more, words_fault}
use Rattle.rv_asm.proofs.assembler.words_of.Goals as goal
use Rattle.rv_asm.proofs.assembler.words_of.Goals.{then-gives_word+in_ok-push_line, else-gives_word}

pub returns-in_err-push_line : goal.returns-in_err-push_line
returns-in_err-push_line c =
    let below : c.loop-i.i < length c.args.lines.now = omega arith in
    let next = next_text c.args.lines.now c.loop-i.i below in
    let exit = err_from_is_err_and c.from_residual.result c.from_residual.ensures.1 in
    rw (exit.1, exit.2)
    (gives_fault c.in_err-push_line.field-0.0 _ _ (c.in_err-push_line.ensures {u = tt})
    (λ is.
    words_fault (place_in c.args.labels.now) (texts c.args.lines.now) c.loop-i.i c.loop-i.address
    (line_at c.args.lines.now c.loop-i.i) c.loop-i.words.items c.in_err-push_line.field-0.0 next
    (sym c.gives_word.ensures ∙ c.if-gives_word.true) is c.loop-i.invariant.words))

pub loop-i-preserved : goal.loop-i-preserved
loop-i-preserved c =
    let below : c.loop-i.i < length c.args.lines.now = omega arith in
    let next = next_text c.args.lines.now c.loop-i.i below in
    elim c.if-gives_word.branch [
      | then-gives_word+in_ok-push_line w ↦
          let pushed = w.in_ok-push_line.ensures {u = tt} in
          rw (w.words-is, w.address-is, pushed.2)
          (record {
            fits = omega arith;
            words =
                words_more (place_in c.args.labels.now) (texts c.args.lines.now) c.loop-i.i c.loop-i.address
                (line_at c.args.lines.now c.loop-i.i) c.loop-i.words.items pushed.0 next
                (sym c.gives_word.ensures ∙ w.if-gives_word.true) pushed.1 c.loop-i.invariant.words;
          })
      | else-gives_word w ↦
          rw (w.words-is, w.address-is)
          (record {
            fits = omega arith;
            words =
                words_blank (place_in c.args.labels.now) (texts c.args.lines.now) c.loop-i.i c.loop-i.address
                (line_at c.args.lines.now c.loop-i.i)
                c.loop-i.words.items next (sym c.gives_word.ensures ∙ w.if-gives_word.false) c.loop-i.invariant.words;
          })
    ]
