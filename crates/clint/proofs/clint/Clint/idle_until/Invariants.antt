use Rattle.std.proofs.Common.{◌≡◌, ◌-◌, ◌≤◌}
use Rattle.clint.specs.Clint.{timer_line}
use Rattle.clint.specs.FirstChange.{IsStill}
use Rattle.clint.proofs.clint.Clint.idle_until.Given as goal

abbrev pub invariant-loop-at : goal.invariant-loop-at
invariant-loop-at l = record {
  from : l.fn.now.0 ≤ l.at;
  until : l.at ≤ l.last.0;
  line : timer_line l.self l.at ≡ timer_line l.self l.fn.now.0;
  still : IsStill l.self l.fn.now.0 l.at;
}

abbrev pub decreases-loop-at : goal.decreases-loop-at
decreases-loop-at l = l.last.0 - l.at
