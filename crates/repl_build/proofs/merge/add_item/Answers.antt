-- Where attributes stand after a further item.
use Rattle.std.proofs.Common.{◌≡◌, ◌∙◌, ℕ, OnOk, Option, None, Some, sym, subst, position}
use Rattle.repl_build.specs.Merge.{has_same_key, placed, put_at}
use Rattle.repl_build.proofs.PlaceLemmas.{replaced, told}
use Rattle.repl_build.proofs.merge.add_item.Goals as goal

pub returns-in_ok-items-in-Some-clause-places : goal.returns-in_ok-items-in-Some-clause-places
returns-in_ok-items-in-Some-clause-places c =
    let items = c.args.items.now in
    let item = c.args.item.now in
    let here : position (has_same_key item.what) items.all.items ≡ Some c.in-Some.at =
    sym (told items.places items.all.items item.what c.requires) ∙ (sym c.place_of.ensures ∙ c.in-Some.is) in
    rw (c.in_ok-items-in-Some.ensures {u = tt}).ok
    (replaced items.places items.all.items (placed c.args.file item) c.in-Some.at here c.requires)

pub returns-in-None-clause-ok : goal.returns-in-None-clause-ok
returns-in-None-clause-ok c =
    let items = c.args.items.now in
    let item = c.args.item.now in
    let nowhere : position (has_same_key item.what) items.all.items ≡ None =
    sym (told items.places items.all.items item.what c.requires) ∙ (sym c.place_of.ensures ∙ c.in-None.is) in
    let P : Option ℕ → Type 0 =
    λ at. OnOk c.push_item.result
    (c.push_item.new.items.all.items ≡ put_at at items.all.items (placed c.args.file item)) in
    subst P (sym nowhere) c.push_item.ensures.ok
