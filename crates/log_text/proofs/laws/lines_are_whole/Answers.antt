use Rattle.log_text.proofs.Printing.{rest_is_whole, text_is_whole}
use Rattle.log_text.proofs.laws.lines_are_whole.Goals as goal

pub returns-clause-text : goal.returns-clause-text
returns-clause-text c = λ names lines items are. text_is_whole names are lines items

pub returns-clause-rest : goal.returns-clause-rest
returns-clause-rest c = λ names lines are. rest_is_whole names are lines
