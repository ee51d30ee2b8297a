use Rattle.std.proofs.Common.{◌∙◌, sym, arith}
use Rattle.lab_snap.proofs.RisingLemmas.{rise_all, rise_past}
use Rattle.lab_snap.proofs.valid.posts.do_rise.Goals as goal

pub loop-i-preserved : goal.loop-i-preserved
loop-i-preserved c =
    rise_past c.args.posts.now c.loop-i.i c.index-posts-i.result c.index-posts-i-in-loop-i.result (omega arith)
    c.loop-i-test.true (sym c.is_before.ensures ∙ c.if-not-is_before.false) c.loop-i.invariant

pub returns : goal.returns
returns c = rise_all c.args.posts.now c.loop-i.i (omega arith) c.loop-i.invariant
