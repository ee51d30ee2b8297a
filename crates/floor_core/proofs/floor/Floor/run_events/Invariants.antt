use Rattle.std.proofs.Common.{◌≡◌, length, take}
use Rattle.floor_core.specs.Run.{IsRun}
use Rattle.floor_core.proofs.floor.Floor.run_events.Given as goal

abbrev pub invariant-loop-i : goal.invariant-loop-i
invariant-loop-i g l = record {
  ran : IsRun g.J.Job.state_after l.fn.self (take l.i l.events) l.self;
  boards : length l.self.boards ≡ length l.fn.self.boards;
}
