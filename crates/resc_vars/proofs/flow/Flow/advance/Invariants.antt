use Rattle.std.proofs.Common.{◌≡◌, false}
use Rattle.resc_vars.specs.Script.{next_of}
use Rattle.resc_vars.proofs.FlowLemmas.{weight}
use Rattle.resc_vars.proofs.flow.Flow.advance.Given as goal

abbrev pub invariant-loop-self : goal.invariant-loop-self
invariant-loop-self l = record { goes_on : l.self.ended ≡ false; next : next_of l.self ≡ next_of l.fn.self }

abbrev pub decreases-loop-self : goal.decreases-loop-self
decreases-loop-self l = weight l.self
