use Rattle.std.proofs.Common.{◌≡◌, ◌==◌, ◌^◌, ◌<◌, ◌∷◌, map, take, All, if◌then◌else◌}
use Rattle.floor_run.specs.Turns.{slots_left}
use Rattle.floor_run.proofs.opening.words_of.Given as goal

abbrev pub invariant-loop-job : goal.invariant-loop-job
invariant-loop-job g l = record {
  words_are :
      l.words.items ≡
      0 ∷ map (λ job. if slots_left g.J.Job.meaning job == 0 then 3 else 0) (take l.job-index l.jobs);
  all_fit : All (λ job. slots_left g.J.Job.meaning job < 2 ^ 64) (take l.job-index l.jobs);
}
