-- No `*/` so far.
use Rattle.std.proofs.Common.{◌≡◌, length}
use Rattle.repl_read.specs.Comments.{closes}
use Rattle.repl_read.proofs.comments.closes.Given as goal

abbrev pub invariant-signs : goal.invariant-signs
invariant-signs l = closes l.rest ≡ closes l.fn.bytes

abbrev pub decreases-signs : goal.decreases-signs
decreases-signs l = length l.rest
