use Rattle.std.proofs.Common.{sym}
use Rattle.floor_core.proofs.JobLemmas.{made_more, two_turns}
use Rattle.floor_core.proofs.laws.turns_add_up.Goals as goal

pub returns-clause-turns : goal.returns-clause-turns
returns-clause-turns g c =
    let laws = g.met.J.Job g.world.𝓛 g.world.𝓜 g.world.𝓡 ((λ s x. x), (λ x. x), (λ x. x), λ x. x) in
    two_turns g.J.Job.state_after laws.adds

pub returns-clause-posts : goal.returns-clause-posts
returns-clause-posts g c = λ job a b. sym (made_more job a b)
