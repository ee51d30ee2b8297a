-- A peripheral more.
use Rattle.repl_build.proofs.LoopLemmas.{wires_from_more}
use Rattle.repl_build.proofs.wires.wires_of.Goals as goal

pub loop-i-preserved : goal.loop-i-preserved
loop-i-preserved c =
    rw ((c.in_ok-append.ensures {u = tt}).ok, c.items.ensures)
    (wires_from_more c.args.plic c.args.all.now c.loop-i.i c.index-all-i.result c.in_ok-more.more c.loop-i.wires.items _
    c.loop-i-test.true c.index-all-i.is (rw c.device_number-dev.ensures at (c.in_ok-more.ensures {u = tt}))
    c.loop-i.invariant)
