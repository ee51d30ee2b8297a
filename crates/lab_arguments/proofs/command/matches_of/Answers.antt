use Rattle.std.proofs.lemmas.Bool.{and_parts}
use Rattle.lab_arguments.proofs.command.matches_of.Goals as goal

pub returns-in-Ok : goal.returns-in-Ok
returns-in-Ok c = λ free. (c.in-Ok.ensures.kinds free, (c.in-Ok.ensures.matches (and_parts _ _ free).0).0)
