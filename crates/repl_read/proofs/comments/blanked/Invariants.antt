-- What is blanked, and then the rest.
use Rattle.std.proofs.Common.{◌≡◌, ◌++◌, length}
use Rattle.repl_read.specs.declared.comments.Inside.TheVariants.{Nothing}
use Rattle.repl_read.specs.Comments.{blanked}
use Rattle.repl_read.proofs.comments.blanked.Given as goal

abbrev pub invariant-signs : goal.invariant-signs
invariant-signs l = l.made.items ++ blanked l.inside l.rest ≡ blanked Nothing l.fn.text

abbrev pub decreases-signs : goal.decreases-signs
decreases-signs l = length l.rest
