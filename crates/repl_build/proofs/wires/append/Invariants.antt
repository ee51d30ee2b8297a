-- The wires so far, and then the rest.
use Rattle.std.proofs.Common.{◌≡◌, ◌++◌, drop}
use Rattle.repl_build.proofs.wires.append.Given as goal

abbrev pub invariant-loop-wire : goal.invariant-loop-wire
invariant-loop-wire l = l.wires.items ++ drop l.wire-index l.more ≡ l.fn.wires.items ++ l.more
