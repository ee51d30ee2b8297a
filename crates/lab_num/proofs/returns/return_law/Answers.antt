use Rattle.lab_num.proofs.ReturnLemmas.{lines_returns}
use Rattle.lab_num.proofs.returns.return_law.Goals as goal

pub returns : goal.returns
returns c = lines_returns
