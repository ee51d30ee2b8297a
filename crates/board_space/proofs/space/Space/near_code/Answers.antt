use Rattle.board_space.proofs.FitLemmas.{accesses_lie}
use Rattle.board_space.proofs.space.Space.near_code.Goals as goal

pub returns : goal.returns
returns g c =
    rw c.self.view_is at (accesses_lie _ _ c.args.at c.near_code.result c.self.invariant.1 c.self.invariant.0
    c.aligned_numbers_lie_in_one_page.ensures c.near_code.ensures)
