-- The rounds so far, and those of what is left, are the run.
use Rattle.std.proofs.Common.{◌≡◌, ◌+◌, ◌≤◌, fold, false}
use Rattle.lab_state.specs.One.{HaveAllPlans}
use Rattle.lab_state.specs.Round.{round}
use Rattle.lab_state.specs.Run.{go_on, lengths, run}
use Rattle.lab_state.proofs.lab.Lab.rounds.Given as goal

abbrev pub invariant-rounds : goal.invariant-rounds
invariant-rounds g l = record {
  unspent : l.self.spent ≡ false;
  plans : HaveAllPlans l.self.lab;
  within : l.self.lab.now + l.left ≤ 10000000000;
  come :
      fold (go_on round) (record { lab = l.self.lab; items = l.lines.items; paused = l.paused })
      (lengths l.longest l.left)
      ≡ run l.fn.self.lab l.d;
}

abbrev pub decreases-rounds : goal.decreases-rounds
decreases-rounds g l = l.left
