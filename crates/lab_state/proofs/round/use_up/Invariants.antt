-- The members so far have used up their parts.
use Rattle.std.proofs.Common.{◌≡◌, ◌++◌, map, take, drop}
use Rattle.lab_state.specs.Inner.Time.{used_up}
use Rattle.lab_state.proofs.round.use_up.Given as goal

abbrev pub invariant-loop-n : goal.invariant-loop-n
invariant-loop-n l =
    l.source
    ≡ record l.fn.source { handles = map used_up (take l.n l.fn.source.handles) ++ drop l.n l.fn.source.handles }
