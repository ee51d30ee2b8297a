-- Where attributes stand after an item more.
use Rattle.std.proofs.Common.{◌≡◌, arith, length}
use Rattle.repl_build.specs.Merge.{placed}
use Rattle.repl_build.proofs.PlaceLemmas.{if_ok, pushed}
use Rattle.repl_build.proofs.merge.push_item.Goals as goal

pub returns-clause-places : goal.returns-clause-places
returns-clause-places c =
    let at : c.len-at.result ≡ length c.args.items.now.all.items = grind (arith) in
    rw ((c.in_ok-push.ensures {u = tt}).items, (c.in_ok-placed.ensures {u = tt}).ok)
    (if_ok c.keep.result
    (λ kept. pushed c.args.items.now.places c.keep.new.places c.args.items.now.all.items
    (placed c.args.file c.args.item.now) c.len-at.result at c.requires kept)
    c.keep.ensures.ok)
