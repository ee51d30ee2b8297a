-- A peripheral more.
use Rattle.std.proofs.Common.{◌≡◌, ◌∙◌, sym, Some, None, take, arith}
use Rattle.std.proofs.lemmas.Grind.{common_steps}
use Rattle.std.proofs.lemmas.List.{append-nil}
use Rattle.repl_build.specs.Numbers.{what_of}
use Rattle.repl_build.specs.Plan.{name_of}
use Rattle.repl_build.proofs.LoopLemmas.{each_more}
use Rattle.repl_build.proofs.plan.names_of.Goals as goal
use Rattle.repl_build.proofs.plan.names_of.Goals.{in-Some+in_ok-name+in_ok-push, in_default}

pub loop-i-preserved : goal.loop-i-preserved
loop-i-preserved c =
    let p = c.index-all-i.result in
    let read = each_more name_of c.args.all.now c.loop-i.i p c.loop-i.names.items _ c.loop-i-test.true c.index-all-i.is
    c.loop-i.invariant in
    elim c.match-what_of.branch [
      | in-Some+in_ok-name+in_ok-push w ↦
          let some : what_of (take c.loop-i.i c.args.all.now) p.kind ≡ Some w.in-Some.what =
          sym c.what_of.ensures ∙ w.in-Some.is in
          let name : w.in_ok-name.name ≡ p.name = grind (arith, common_steps) in
          rw (w.names-is, (w.in_ok-push.ensures {u = tt}).items, name) (rw some at read)
      | in_default w ↦
          let none : what_of (take c.loop-i.i c.args.all.now) p.kind ≡ None =
          sym c.what_of.ensures ∙ w.in_default.is in
          rw w.names-is (rw (none, append-nil c.loop-i.names.items) at read)
    ]
