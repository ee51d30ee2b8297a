use Rattle.floor_core.proofs.ResultLemmas.{kept, paid}
use Rattle.floor_core.proofs.laws.no_board_passes_its_grant.Goals as goal

pub returns : goal.returns
returns g c =
    let laws = g.met.J.Job g.world.𝓛 g.world.𝓜 g.world.𝓡 ((λ s x. x), (λ x. x), (λ x. x), λ x. x) in
    λ starts events f run.
    paid g.J.Job.state_after starts f (kept g.J.Job.state_after laws.adds laws.rests starts events f run)
