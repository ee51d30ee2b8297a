use Rattle.lab_num.specs.Returns.{with_returns}
use Rattle.lab_top.proofs.Settings.{begun_lines}
use Rattle.lab_top.proofs.laws.returns_agree.Goals as goal

pub returns : goal.returns
returns c = λ held kept script text setting none.
    begun_lines held kept script text (with_returns text) setting (c.return_law.ensures script text none)
