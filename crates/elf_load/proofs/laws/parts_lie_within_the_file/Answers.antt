-- The parts of an accepted file, from their lemmas.
use Rattle.elf_load.proofs.LawLemmas.{parts_stand, parts_end}
use Rattle.elf_load.proofs.laws.parts_lie_within_the_file.Goals as goal

pub returns-clause-bytes : goal.returns-clause-bytes
returns-clause-bytes c = parts_stand

pub returns-clause-addresses : goal.returns-clause-addresses
returns-clause-addresses c = parts_end
