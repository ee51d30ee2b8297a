use Rattle.lab_gen.proofs.Apart.{each_has_plan}
use Rattle.lab_gen.proofs.generated.generate.Goals as goal

pub play-requires-clause-plans : goal.play-requires-clause-plans
play-requires-clause-plans g c κs within = each_has_plan _ _ _ c.in_ok-lab.ensures
