use Rattle.repl_build.proofs.NameLemmas.{text_named}
use Rattle.repl_build.proofs.laws.entries_of_a_text_are_named.Goals as goal

pub returns : goal.returns
returns c = text_named
