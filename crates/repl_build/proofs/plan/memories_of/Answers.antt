-- A peripheral more.
use Rattle.std.proofs.Common.{◌∙◌, sym}
use Rattle.repl_build.specs.declared.types.PeripheralType.TheVariants.{Memory}
use Rattle.repl_build.specs.Places.{size_of}
use Rattle.repl_build.specs.Types.{is_type}
use Rattle.repl_build.proofs.LoopLemmas.{kept_more, left_more}
use Rattle.repl_build.proofs.plan.memories_of.Goals as goal
use Rattle.repl_build.proofs.plan.memories_of.Goals.{then-is_type+in_ok-push, else-is_type}

pub loop-p-preserved : goal.loop-p-preserved
loop-p-preserved c =
    elim c.if-is_type.branch [
      | then-is_type+in_ok-push w ↦
          rw (w.sizes-is, (w.in_ok-push.ensures {u = tt}).items, w.size_of.ensures)
          (kept_more size_of (λ p. is_type Memory p.kind) c.args.all.now c.loop-p.p-index c.p-item.result
          c.loop-p.sizes.items _ c.loop-p-test.true c.p-item.is (sym c.is_type.ensures ∙ w.if-is_type.true)
          c.loop-p.invariant)
      | else-is_type w ↦
          rw w.sizes-is
          (left_more size_of (λ p. is_type Memory p.kind) c.args.all.now c.loop-p.p-index c.p-item.result
          c.loop-p.sizes.items _ c.loop-p-test.true c.p-item.is (sym c.is_type.ensures ∙ w.if-is_type.false)
          c.loop-p.invariant)
    ]
