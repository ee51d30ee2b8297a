use Rattle.std.proofs.Common.{◌∙◌, sym, arith}
use Rattle.log_text.proofs.Rising.{rise_all, rise_past}
use Rattle.log_text.proofs.lines.rise.Goals as goal

pub loop-i-preserved : goal.loop-i-preserved
loop-i-preserved c =
    rise_past c.args.lines.now c.loop-i.i c.index-lines-i.result c.index-lines-i-in-loop-i.result (omega arith)
    c.loop-i-test.true (sym c.is_lower.ensures ∙ c.if-not-is_lower.false) c.loop-i.invariant

pub returns : goal.returns
returns c = rise_all c.args.lines.now c.loop-i.i (omega arith) c.loop-i.invariant
