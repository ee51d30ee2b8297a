-- No quote so far.
use Rattle.std.proofs.Common.{◌≡◌, true, take}
use Rattle.std.specs.List.{list_all}
use Rattle.repl_read.specs.Inner.Steps.{is_no_quote}
use Rattle.repl_read.proofs.tokens.string_length.Given as goal

abbrev pub invariant-loop-i : goal.invariant-loop-i
invariant-loop-i l = list_all is_no_quote (take l.i l.bytes) ≡ true
