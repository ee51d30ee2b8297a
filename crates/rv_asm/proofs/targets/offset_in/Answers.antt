-- A number, or else the offset of a label.
use Rattle.std.proofs.Common.{◌∙◌, sym, ap, Ok, arith}
use Rattle.std.proofs.lemmas.Result.{err_from_is_err_and}
use Rattle.rv_asm.specs.Places.{place_in}
use Rattle.rv_asm.specs.Numbers.{number_of}
use Rattle.rv_asm.specs.Lines.{target_of}
use Rattle.rv_asm.proofs.OffsetLemmas.{target_number, target_label, target_fault}
use Rattle.rv_asm.proofs.targets.offset_in.Goals as goal

pub returns-in-Some : goal.returns-in-Some
unfolding target_of
returns-in-Some c =
    ap Ok c.even_in_field.ensures ∙
    target_number (place_in c.args.labels.now) c.args.here c.args.least c.args.greatest c.args.target.now
    (number_of c.args.target.now) c.in-Some.number (omega arith) (omega arith)
    (sym c.number_of.ensures ∙ c.in-Some.is)

pub returns-in_err-offset-in-None : goal.returns-in_err-offset-in-None
unfolding target_of
returns-in_err-offset-in-None c =
    let exit = err_from_is_err_and c.from_residual.result c.from_residual.ensures.1 in
    rw (exit.1, exit.2)
    (target_fault (place_in c.args.labels.now) c.args.here c.args.least c.args.greatest c.args.target.now
    (number_of c.args.target.now) c.in_err-offset-in-None.field-0.0 (sym c.number_of.ensures ∙ c.in-None.is)
    (sym c.label_offset.ensures ∙ c.in_err-offset-in-None.was {u = tt}))

pub returns-in_ok-offset-in-None : goal.returns-in_ok-offset-in-None
unfolding target_of
returns-in_ok-offset-in-None c =
    ap Ok c.even_in_field-in-None.ensures ∙
    target_label (place_in c.args.labels.now) c.args.here c.args.least c.args.greatest c.args.target.now
    (number_of c.args.target.now) c.in_ok-offset-in-None.offset (sym c.number_of.ensures ∙ c.in-None.is)
    (sym c.label_offset.ensures ∙ c.in_ok-offset-in-None.was {u = tt})
