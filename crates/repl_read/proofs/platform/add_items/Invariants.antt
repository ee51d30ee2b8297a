-- The items so far.
use Rattle.std.proofs.Common.{◌≡◌, ◌++◌}
use Rattle.repl_read.specs.Platform.{items_at}
use Rattle.repl_read.proofs.platform.add_items.Given as goal

abbrev pub invariant-loop-what : goal.invariant-loop-what
invariant-loop-what l = l.items.items ≡ l.fn.items.items ++ items_at l.n l.yielded
