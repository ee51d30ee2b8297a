-- The fields give what the search of the table gives.
use Rattle.std.proofs.Common.{◌∙◌, sym, arith}
use Rattle.rv_decode.proofs.Rows.{matched_row-by}
use Rattle.rv_decode.proofs.decoder.decode_op.Goals as goal

pub returns : goal.returns
returns c = c.op_by_fields.ensures ∙ sym (matched_row-by c.args.word (omega arith))
