-- What was read, and then the lines that are to come, are what the file says.
use Rattle.std.proofs.Common.{◌≡◌, length}
use Rattle.std.specs.Str.Lines.{lines}
use Rattle.ihex_load.specs.Inner.Course.{told_from, parts_told}
use Rattle.ihex_load.proofs.load.parts_of.Given as goal

abbrev pub invariant-loop-rest : goal.invariant-loop-rest
invariant-loop-rest l = told_from l.base l.parts.items (lines l.rest) ≡ parts_told l.file

abbrev pub decreases-loop-rest : goal.decreases-loop-rest
decreases-loop-rest l = length l.rest
