-- The further items of a name are those of the entries found.
use Rattle.std.proofs.Common.{◌∙◌, ap}
use Rattle.std.specs.List.{flat_map, fold}
use Rattle.repl_build.specs.Inner.Found.{found}
use Rattle.repl_build.specs.Merge.{own_items, with_item}
use Rattle.repl_build.proofs.FoundLemmas.{further_found}
use Rattle.repl_build.proofs.merge.merged_items.Goals as goal

pub returns-clause-ok : goal.returns-clause-ok
returns-clause-ok c = λ entries has.
    let name = c.args.name.now in
    (c.in_ok-add_further.ensures {u = tt}).ok
    ∙ (ap (λ items. fold with_item items (flat_map own_items (found c.args.updates.now name)))
    (c.in_ok-items.ensures {u = tt}).ok
    ∙ ap (fold with_item (own_items c.args.entry.now))
    (further_found entries (found c.args.updates.now name) name (has name)))
