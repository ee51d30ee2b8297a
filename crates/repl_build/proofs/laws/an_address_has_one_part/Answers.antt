-- No byte lies in two regions of a plan.
use Rattle.repl_build.proofs.ValidLemmas.{regions_apart}
use Rattle.repl_build.proofs.laws.an_address_has_one_part.Goals as goal

pub returns : goal.returns
returns c = λ entries plan is at i j one other.
    c.an_address_lies_in_one_region.ensures plan.regions at i j one other (regions_apart entries plan is)
