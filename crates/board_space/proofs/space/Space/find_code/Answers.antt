use Rattle.board_space.proofs.FitLemmas.{lies}
use Rattle.board_space.proofs.space.Space.find_code.Goals as goal

pub returns-clause-lies : goal.returns-clause-lies
returns-clause-lies g c =
    rw c.self.view_is at (lies _ 4 c.find_code.result c.self.invariant.1
    (rw c.self.invariant.0 at c.find_code.ensures.within))
