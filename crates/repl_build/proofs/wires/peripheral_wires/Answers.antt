-- An item more.
use Rattle.std.proofs.Common.{arith}
use Rattle.std.proofs.lemmas.Grind.{common_steps}
use Rattle.repl_build.specs.Wires.{placed_wires}
use Rattle.repl_build.proofs.LoopLemmas.{items_wires_more}
use Rattle.repl_build.proofs.wires.peripheral_wires.Goals as goal

pub loop-item-preserved : goal.loop-item-preserved
loop-item-preserved c =
    rw ((c.in_ok-append.ensures {u = tt}).ok, c.items.ensures)
    (items_wires_more (placed_wires c.args.plic c.args.all.now c.args.p.now.kind c.args.dev)
    c.items-item-items.result.now c.loop-item.item-index c.item-item.result c.in_ok-more.more c.loop-item.wires.items _
    c.loop-item-test.true c.item-item.is (c.in_ok-more.ensures {u = tt}) c.loop-item.invariant)

pub returns-in_err-more : goal.returns-in_err-more
returns-in_err-more c = grind (arith, common_steps)

pub returns : goal.returns
returns c = grind (arith, common_steps)
