-- A peripheral more.
use Rattle.std.proofs.Common.{◌∙◌, sym}
use Rattle.repl_build.specs.Plan.{kind_by}
use Rattle.repl_build.proofs.LoopLemmas.{some_more, none_more}
use Rattle.repl_build.proofs.plan.kinds_of.Goals as goal
use Rattle.repl_build.proofs.plan.kinds_of.Goals.{in-Some+in_ok-push, in_default}

pub loop-p-preserved : goal.loop-p-preserved
loop-p-preserved c =
    elim c.match-kind_by.branch [
      | in-Some+in_ok-push w ↦
          rw (w.kinds-is, (w.in_ok-push.ensures {u = tt}).items)
          (some_more (λ p. kind_by p.kind) c.args.all.now c.loop-p.p-index c.p-item.result w.in-Some.kind
          c.loop-p.kinds.items _ c.loop-p-test.true c.p-item.is (sym c.kind_by.ensures ∙ w.in-Some.is)
          c.loop-p.invariant)
      | in_default w ↦
          rw w.kinds-is
          (none_more (λ p. kind_by p.kind) c.args.all.now c.loop-p.p-index c.p-item.result c.loop-p.kinds.items _
          c.loop-p-test.true c.p-item.is (sym c.kind_by.ensures ∙ w.in_default.is) c.loop-p.invariant)
    ]
