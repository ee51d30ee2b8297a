use Rattle.lab_gen.specs.Generated.{IsGenerated}
use Rattle.lab_gen.proofs.boards.laboratory.Given as goal

-- The laboratory has the boards so far.
abbrev pub invariant-loop-number : goal.invariant-loop-number
invariant-loop-number g l = IsGenerated l.seed l.number l.lab
