-- The later part counts, from its lemmas.
use Rattle.elf_load.proofs.LawLemmas.{byte_within, byte_outside}
use Rattle.elf_load.proofs.laws.later_parts_count.Goals as goal

pub returns-clause-within : goal.returns-clause-within
returns-clause-within c = byte_within

pub returns-clause-outside : goal.returns-clause-outside
returns-clause-outside c = byte_outside
