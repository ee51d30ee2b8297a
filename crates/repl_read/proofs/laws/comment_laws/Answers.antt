-- The laws, from their lemmas.
use Rattle.repl_read.proofs.CommentLaws.{block_law, line_law, string_law, other_law}
use Rattle.repl_read.proofs.laws.comment_laws.Goals as goal

pub returns-clause-block : goal.returns-clause-block
returns-clause-block c = block_law

pub returns-clause-line : goal.returns-clause-line
returns-clause-line c = line_law

pub returns-clause-string : goal.returns-clause-string
returns-clause-string c = string_law

pub returns-clause-other : goal.returns-clause-other
returns-clause-other c = other_law
