use Rattle.std.proofs.Common.{◌==◌, ◌<◌, ◌^◌, ◌∙◌, if◌then◌else◌, arith}
use Rattle.floor_run.specs.Turns.{slots_left}
use Rattle.floor_run.proofs.OpenLemmas.{word_step, all_step}
use Rattle.floor_run.proofs.opening.words_of.Goals as goal

pub loop-job-preserved : goal.loop-job-preserved
loop-job-preserved g c = record {
  words_are =
      c.in_ok-push-2.ensures.items ∙
      word_step (λ job. if slots_left g.J.Job.meaning job == 0 then 3 else 0) c.args.jobs.now c.loop-job.job-index
      c.job-item.result _ _ (omega arith) c.job-item.is c.loop-job.invariant.words_are c.first_word.ensures.word;
  all_fit =
      all_step (λ job. slots_left g.J.Job.meaning job < 2 ^ 64) c.args.jobs.now c.loop-job.job-index
      c.job-item.result (omega arith) c.job-item.is c.loop-job.invariant.all_fit c.first_word.ensures.fits;
}
