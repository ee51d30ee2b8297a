use Rattle.repl_build.proofs.EntryLemmas.{names_told, types_told, processors_told, parts_told, places_told}
use Rattle.repl_build.proofs.laws.each_typed_entry_has_its_part.Goals as goal

pub returns-clause-names : goal.returns-clause-names
returns-clause-names c = names_told

pub returns-clause-types : goal.returns-clause-types
returns-clause-types c = types_told

pub returns-clause-processors : goal.returns-clause-processors
returns-clause-processors c = processors_told

pub returns-clause-parts : goal.returns-clause-parts
returns-clause-parts c = parts_told

pub returns-clause-places : goal.returns-clause-places
returns-clause-places c = places_told
