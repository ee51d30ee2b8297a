use Rattle.std.proofs.Common.{◌≡◌, ◌+◌, ◌-◌, ◌≤◌, ◌++◌, take, drop, vec_len}
use Rattle.floor_core.specs.Job.{posts}
use Rattle.floor_tests.proofs.toy.ToyJob.turn.Given as goal

abbrev pub invariant-loop-i : goal.invariant-loop-i
invariant-loop-i l = record {
  at : l.self.at ≡ l.fn.self.at + l.i;
  room : l.n ≤ vec_len l.fn.self.slots - l.fn.self.at;
  slots : l.self.slots ≡ l.fn.self.slots;
  sent : l.self.sent.items ≡ l.fn.self.sent.items;
  unsent : l.self.unsent.items ≡ l.fn.self.unsent.items ++ posts (take l.i (drop l.fn.self.at l.fn.self.slots.items));
}
