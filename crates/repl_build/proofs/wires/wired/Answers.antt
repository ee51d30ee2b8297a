-- Lists of different lengths, and a line and a pin more.
use Rattle.std.proofs.Common.{◌<◌, sym, length, arith}
use Rattle.repl_build.specs.Wires.{wire_at}
use Rattle.repl_build.proofs.WireLemmas.{unequal}
use Rattle.repl_build.proofs.LoopLemmas.{wired_more}
use Rattle.repl_build.proofs.wires.wired.Goals as goal

pub returns-then-lines-pins-clause-ok : goal.returns-then-lines-pins-clause-ok
returns-then-lines-pins-clause-ok c = sym (unequal _ c.args.lines.now c.args.pins.now c.if-lines-pins.true)

pub loop-i-preserved : goal.loop-i-preserved
loop-i-preserved c =
    let b = c.args.between in
    let pins : c.loop-i.i < length c.args.pins.now = omega arith in
    rw (c.in_ok-push.ensures {u = tt}).items
    (wired_more (wire_at b.plic b.processors b.kind b.dev b.hart) c.args.lines.now c.args.pins.now c.loop-i.i
    c.in-Some.wire c.loop-i.wires.items _ c.loop-i-test.true pins (sym (c.in-Some.ensures {u = tt})) c.loop-i.invariant)
