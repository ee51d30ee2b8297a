use Rattle.repl_build.proofs.QuestionLemmas.{first_refused, all_kept}
use Rattle.repl_build.proofs.laws.the_first_broken_rule_is_told.Goals as goal

pub returns-clause-refused : goal.returns-clause-refused
returns-clause-refused c = first_refused

pub returns-clause-given : goal.returns-clause-given
returns-clause-given c = all_kept
