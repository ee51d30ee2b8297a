-- The numbers so far, and then the rest.
use Rattle.std.proofs.Common.{◌≡◌, ◌+◌, ◌-◌, ◌++◌}
use Rattle.std.specs.List.{range_with_len}
use Rattle.repl_build.specs.Wires.{numbers_of}
use Rattle.repl_build.proofs.wires.add_numbers.Given as goal

abbrev pub invariant-loop-n : goal.invariant-loop-n
invariant-loop-n l =
    l.numbers.items ++ range_with_len l.n (l.fn.span.last + 1 - l.n) ≡ l.fn.numbers.items ++ numbers_of l.fn.span
