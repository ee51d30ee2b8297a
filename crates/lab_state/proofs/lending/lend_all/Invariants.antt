-- The boards so far are lent, and the others are as they were.
use Rattle.std.proofs.Common.{◌≡◌, ◌+◌, ◌++◌, length, map, take, drop}
use Rattle.std.specs.List.{flat_map}
use Rattle.lab_state.specs.Inner.Lending.{lent, away}
use Rattle.lab_state.proofs.lending.lend_all.Given as goal

abbrev pub invariant-loop-pass : goal.invariant-loop-pass
invariant-loop-pass g l = record {
  n : l.n ≡ length l.yielded;
  boards : l.boards ≡ map away (take l.n l.fn.boards) ++ drop l.n l.fn.boards;
  jobs :
      l.jobs.items ≡ flat_map (lent l.fn.boss.mail l.fn.from.0 (l.fn.from.0 + l.fn.q)) (take l.n l.fn.boards);
}
