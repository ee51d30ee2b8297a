-- An entry more.
use Rattle.repl_build.specs.Merge.{peripheral_of}
use Rattle.repl_build.proofs.LoopLemmas.{flat_more}
use Rattle.repl_build.proofs.merge.merged.Goals as goal

pub loop-entry-preserved : goal.loop-entry-preserved
loop-entry-preserved c =
    let has = (c.in_ok-updates.ensures {u = tt}).ok in
    rw (c.in_ok-add_peripheral.ensures.ok c.args.entries.now has)
    (rw (← c.entry-item.is) at
    (flat_more (peripheral_of c.args.entries.now) c.args.entries.now c.loop-entry.entry-index c.entry-item.result
    c.loop-entry.peripherals.items _ c.loop-entry-test.true c.loop-entry.invariant))
