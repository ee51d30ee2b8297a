use Rattle.floor_core.proofs.SoundLemmas.{sound_begun, sound_kept}
use Rattle.floor_core.proofs.laws.floors_stay_sound.Goals as goal

pub returns-clause-begun : goal.returns-clause-begun
returns-clause-begun g c =
    let laws = g.met.J.Job g.world.𝓛 g.world.𝓜 g.world.𝓡 ((λ s x. x), (λ x. x), (λ x. x), λ x. x) in
    λ starts. sound_begun g.J.Job.state_after laws.rests starts

pub returns-clause-kept : goal.returns-clause-kept
returns-clause-kept g c =
    let laws = g.met.J.Job g.world.𝓛 g.world.𝓜 g.world.𝓡 ((λ s x. x), (λ x. x), (λ x. x), λ x. x) in
    λ starts f e sound legal. sound_kept g.J.Job.state_after laws.adds starts f e sound legal
