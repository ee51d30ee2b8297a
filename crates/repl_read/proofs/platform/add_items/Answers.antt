-- An item more.
use Rattle.repl_read.proofs.EntryLemmas.{item_more}
use Rattle.repl_read.proofs.platform.add_items.Goals as goal

pub loop-what-preserved : goal.loop-what-preserved
loop-what-preserved c =
    rw (c.in_ok-push.ensures {u = tt}).items
    (item_more c.args.n c.in-Some.what c.loop-what.yielded c.loop-what.items.items c.args.items.now.items
    c.loop-what.invariant)
