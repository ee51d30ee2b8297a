-- A number more.
use Rattle.std.proofs.Common.{◌+◌}
use Rattle.repl_build.proofs.WireLemmas.{span_more}
use Rattle.repl_build.proofs.wires.add_numbers.Goals as goal

pub loop-n-preserved : goal.loop-n-preserved
loop-n-preserved c =
    rw (c.in_ok-push.ensures {u = tt}).items
    (span_more c.loop-n.numbers.items _ c.loop-n.n (c.args.span.last + 1) c.loop-n-test.true c.loop-n.invariant)
