use Rattle.std.proofs.Common.{◌∙◌, ap}
use Rattle.sys_bus.specs.Region.{target_of}
use Rattle.board_space.proofs.FitLemmas.{in_page, lies}
use Rattle.board_space.proofs.space.Space.find_data.Goals as goal

pub returns-clause-lies : goal.returns-clause-lies
returns-clause-lies g c =
    rw c.self.view_is at (lies _ c.args.width c.find_data.result c.self.invariant.1
    (rw c.self.invariant.0 at c.find_data.ensures.within))

pub returns-clause-page : goal.returns-clause-page
returns-clause-page g c =
    in_page _ c.args.at c.args.width c.find_data.result c.self.invariant.1 c.requires
    (λ place. c.aligned_numbers_lie_in_one_page.ensures place c.args.width)
    (c.find_data.ensures.target ∙ ap (λ regions. target_of regions c.args.at c.args.width) c.self.invariant.0)
