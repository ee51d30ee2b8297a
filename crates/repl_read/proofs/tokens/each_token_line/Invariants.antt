-- The lines so far.
use Rattle.std.proofs.Common.{◌≡◌, map, take}
use Rattle.repl_read.specs.Tokens.{token_line}
use Rattle.repl_read.proofs.tokens.each_token_line.Given as goal

abbrev pub invariant-loop-line : goal.invariant-loop-line
invariant-loop-line l = l.made.items ≡ map token_line (map (λ line. line.now) (take l.line-index l.lines))
