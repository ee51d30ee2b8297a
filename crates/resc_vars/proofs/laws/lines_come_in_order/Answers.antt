use Rattle.resc_vars.proofs.JoinLemmas.{things_join}
use Rattle.resc_vars.proofs.SameLemmas.{coming_opened}
use Rattle.resc_vars.proofs.laws.lines_come_in_order.Goals as goal

pub returns-clause-included : goal.returns-clause-included
returns-clause-included c = λ flow after file text is. coming_opened flow after file text is

pub returns-clause-behind : goal.returns-clause-behind
returns-clause-behind c = λ text more whole closed. things_join text more whole closed
