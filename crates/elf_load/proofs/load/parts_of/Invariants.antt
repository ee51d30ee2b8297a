-- What was read, and then the headers that are to come, are what the file says.
use Rattle.std.proofs.Common.{◌≡◌}
use Rattle.elf_load.specs.Inner.Parts.{told_from, parts_told}
use Rattle.elf_load.proofs.load.parts_of.Given as goal

abbrev pub invariant-loop-n : goal.invariant-loop-n
invariant-loop-n l = told_from l.file l.parts.items l.n l.count ≡ parts_told l.file
