-- A name that is new goes last.
use Rattle.std.proofs.Common.{◌∙◌, ap, nat_eq}
use Rattle.std.specs.Cmp.Lexicographic.{pointwise}
use Rattle.indexmap.specs.IndexMap.{insert_entry}
use Rattle.indexmap.proofs.CallerLemmas.{insert_entry-new}
use Rattle.lab_state.proofs.hub_list.create_both.Goals as goal

pub returns-clause-name : goal.returns-clause-name
returns-clause-name c =
    c.in_ok-insert.ensures.entries
    ∙ ap (λ entries. insert_entry (pointwise nat_eq) entries c.args.name c.args.kind) c.reserve.ensures.entries
    ∙ insert_entry-new (pointwise nat_eq) c.args.names.now c.args.name c.args.kind c.requires.new
