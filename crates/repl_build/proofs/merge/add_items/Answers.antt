-- An item more.
use Rattle.repl_build.specs.Merge.{placed, with_item}
use Rattle.repl_build.proofs.LoopLemmas.{fold_map_more}
use Rattle.repl_build.proofs.merge.add_items.Goals as goal

pub loop-item-preserved : goal.loop-item-preserved
loop-item-preserved c = (
  rw (c.in_ok-add_item.ensures {u = tt}).ok
      (fold_map_more with_item (placed c.args.entry.now.file) c.items-item-items.result.now c.loop-item.item-index
      c.item-item.result c.loop-item.items.all.items _ c.loop-item-test.true c.item-item.is c.loop-item.invariant.0),
  (c.in_ok-add_item.ensures {u = tt}).places,
)
