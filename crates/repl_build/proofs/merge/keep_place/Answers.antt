-- What a map has after a place more.
use Rattle.std.proofs.Common.{◌≡◌, ◌∙◌, None, arith}
use Rattle.std.specs.BTreeMap.{get_by}
use Rattle.std.specs.Cmp.Lexicographic.{slice_cmp}
use Rattle.std.specs.Ordering.{nat_cmp}
use Rattle.std.proofs.lemmas.Map.Text.{btree_map_updates_str}
use Rattle.repl_build.specs.Inner.Places.{place}
use Rattle.repl_build.proofs.PlaceLemmas.{kept}
use Rattle.repl_build.proofs.merge.keep_place.Goals as goal

pub returns-in_ok-insert-clause-ok : goal.returns-in_ok-insert-clause-ok
returns-in_ok-insert-clause-ok c = λ q.
    let none : place c.args.places.now c.args.key.now ≡ None = grind (arith) in
    btree_map_updates_str c.args.key.now c.args.places.now c.insert.new.self _ c.in_ok-insert.ensures.updates q
    ∙ kept c.args.key.now (λ ds. get_by (λ k. slice_cmp nat_cmp ds k.now) c.args.places.now) c.args.at q none
