-- No word so far.
use Rattle.std.proofs.Common.{◌≡◌, drop}
use Rattle.repl_read.specs.Features.{begins_section}
use Rattle.repl_read.proofs.features.begins_section.Given as goal

abbrev pub invariant-loop-token : goal.invariant-loop-token
invariant-loop-token l = begins_section (drop l.token-index l.tokens) ≡ begins_section l.tokens
