-- A wire more.
use Rattle.repl_build.proofs.LoopLemmas.{push_more}
use Rattle.repl_build.proofs.wires.append.Goals as goal

pub loop-wire-preserved : goal.loop-wire-preserved
loop-wire-preserved c =
    rw (c.in_ok-push.ensures {u = tt}).items
    (push_more c.loop-wire.wires.items c.args.more.now _ c.loop-wire.wire-index _ c.loop-wire-test.true
    c.loop-wire.invariant)
