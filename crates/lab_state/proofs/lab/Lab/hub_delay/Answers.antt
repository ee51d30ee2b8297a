-- The hubs of a laboratory hold back for at most a second.
use Rattle.std.proofs.Common.{◌≡◌, ◌≤◌, ℕ, List, slice_get, Option, None, Some, subst, refl}
use Rattle.std.specs.Option.{option_map}
use Rattle.lab_state.specs.Hub.{Hub}
use Rattle.lab_state.specs.Inner.Standing.{AreShort}
use Rattle.std.proofs.lemmas.Option.{slice_get_within, get_or_from_slice_get}
use Rattle.lab_state.proofs.SoundLemmas.{unspent}
use Rattle.lab_state.proofs.lab.Lab.hub_delay.Goals as goal

-- the delay that is read is that of one of the hubs
short_at :
    (hubs : List Hub) (n delay : ℕ) → AreShort hubs →
    Some delay ≡ option_map (λ (hub : Hub). hub.delay) (slice_get hubs n) →
    delay ≤ 1000000
short_at hubs n delay all is = by_hub (slice_get hubs n) refl is
  where
    by_hub :
        (o : Option Hub) → slice_get hubs n ≡ o → Some delay ≡ option_map (λ (hub : Hub). hub.delay) o → delay ≤ 1000000
    by_hub None at is = absurd (cc)
    by_hub (Some hub) at is =
        let below = slice_get_within hubs n hub at in
        let here = get_or_from_slice_get hubs n hub hub at in
        let same : delay ≡ hub.delay = cc in
        rw same (subst (λ (hub : Hub). hub.delay ≤ 1000000) here (all n hub below))

pub returns-clause-most : goal.returns-clause-most
returns-clause-most g c =
    let sound = unspent c.self.invariant c.self.view_is c.requires.unspent in
    short_at c.self.inside.hubs c.args.n _ sound.shape.delays c.hub_delay.ensures
