-- What is read, and then the rest.
use Rattle.std.proofs.Common.{◌≡◌, ◌-◌, ◌≤◌, ◌++◌, false, drop, length}
use Rattle.repl_read.specs.Tokens.{tokens_of}
use Rattle.repl_read.proofs.tokens.tokens_of.Given as goal

abbrev pub invariant-tokens : goal.invariant-tokens
invariant-tokens l = record {
  within : l.start ≤ length l.line;
  read : l.made.items ++ tokens_of false (drop l.start l.line) ≡ tokens_of false l.line;
}

abbrev pub decreases-tokens : goal.decreases-tokens
decreases-tokens l = length l.line - l.start
