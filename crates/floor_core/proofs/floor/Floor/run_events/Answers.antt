use Rattle.std.proofs.Common.{◌∙◌, take, sym, subst, refl, arith}
use Rattle.std.proofs.lemmas.Grind.{common_steps}
use Rattle.std.proofs.lemmas.List.{take_more}
use Rattle.floor_core.specs.Run.{IsRun}
use Rattle.floor_core.proofs.ResultLemmas.{run_more}
use Rattle.floor_core.proofs.floor.Floor.run_events.Goals as goal

pub loop-i-preserved : goal.loop-i-preserved
loop-i-preserved g c = record {
  ran =
      subst (λ l. IsRun g.J.Job.state_after c.args.self.now l c.happen.new.self)
      (sym (take_more c.args.events.now c.loop-i.i _ c.loop-i-test.true))
      (run_more g.J.Job.state_after c.args.self.now (take c.loop-i.i c.args.events.now) _ _ _ c.loop-i.invariant.ran
      ((c.if-not-legal.ensures {u = tt}).0 refl) c.in-Ok.ensures.happened);
  boards = c.happen.ensures.boards ∙ c.loop-i.invariant.boards;
}

pub returns-clause-ran : goal.returns-clause-ran
returns-clause-ran g c = grind (arith, common_steps)
