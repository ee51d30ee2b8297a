-- The row that is found has the format of its instruction.
use Rattle.std.proofs.Common.{◌∙◌, ap, sym}
use Rattle.std.specs.Prelude.{Some}
use Rattle.rv_decode.proofs.Formats.{means-none, means-some}
use Rattle.rv_decode.proofs.decoder.decode.Goals as goal

pub returns-in_err-op-clause-value : goal.returns-in_err-op-clause-value
returns-in_err-op-clause-value c =
    c.from_residual.ensures ∙ means-none c.args.word (sym c.decode_op.ensures ∙ c.in_err-op.was {u = tt})

pub returns-clause-value : goal.returns-clause-value
returns-clause-value c =
    ap Some c.instr_from.ensures.value ∙
    means-some c.args.word c.in_ok-op.op c.format.result (sym c.decode_op.ensures ∙ c.in_ok-op.was) c.format.ensures
