-- A peripheral more.
use Rattle.std.proofs.Common.{◌≡◌, ◌∙◌, sym, ap, take, [], ◌∷◌, option_to_list}
use Rattle.std.proofs.lemmas.List.{append-nil}
use Rattle.repl_build.specs.Plan.{region_of}
use Rattle.repl_build.proofs.LoopLemmas.{each_more}
use Rattle.repl_build.proofs.plan.regions_of.Goals as goal
use Rattle.repl_build.proofs.plan.regions_of.Goals.{in-Some+in_ok-push, in_default}

pub loop-i-preserved : goal.loop-i-preserved
loop-i-preserved c =
    let p = c.index-all-i.result in
    let read = each_more region_of c.args.all.now c.loop-i.i p c.loop-i.regions.items _ c.loop-i-test.true
    c.index-all-i.is c.loop-i.invariant in
    let given = rw c.what_of.ensures at c.region_by.ensures in
    elim c.match-region_by.branch [
      | in-Some+in_ok-push w ↦
          let some : region_of (take c.loop-i.i c.args.all.now) p ≡ w.in-Some.region ∷ [] =
          sym given ∙ ap option_to_list w.in-Some.is in
          rw (w.regions-is, (w.in_ok-push.ensures {u = tt}).items) (rw some at read)
      | in_default w ↦
          let none : region_of (take c.loop-i.i c.args.all.now) p ≡ [] =
          sym given ∙ ap option_to_list w.in_default.is in
          rw w.regions-is (rw (none, append-nil c.loop-i.regions.items) at read)
    ]
