use Rattle.board_space.proofs.LineLemmas.{unwired_lines}
use Rattle.board_space.proofs.space.Space.no_lines.Goals as goal

pub returns-clause-settled : goal.returns-clause-settled
returns-clause-settled g c = (unwired_lines _ 0 0 c.plan-plan.ensures.fit c.requires).0

pub returns-clause-lines : goal.returns-clause-lines
returns-clause-lines g c = λ hart t. (unwired_lines _ hart t c.plan-plan.ensures.fit c.requires).1
