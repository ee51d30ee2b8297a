-- What a map has after a word more.
use Rattle.std.proofs.Common.{◌∙◌, ap, is_some}
use Rattle.std.specs.BTreeMap.{get_by}
use Rattle.std.specs.Cmp.Lexicographic.{slice_cmp}
use Rattle.std.specs.Ordering.{nat_cmp}
use Rattle.std.proofs.lemmas.Map.Text.{btree_map_updates_str}
use Rattle.repl_build.proofs.SeenLemmas.{some_after}
use Rattle.repl_build.proofs.seen.add_word.Goals as goal

pub returns-clause-ok : goal.returns-clause-ok
returns-clause-ok c = λ q.
    ap is_some
    (btree_map_updates_str c.args.word.now c.args.seen.now c.insert.new.self _ c.in_ok-insert.ensures.updates q)
    ∙ some_after c.args.word.now (λ ds. get_by (λ k. slice_cmp nat_cmp ds k.now) c.args.seen.now) tt q
