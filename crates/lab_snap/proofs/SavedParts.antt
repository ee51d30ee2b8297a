-- Parts of a laboratory that are read one by one.
use Rattle.std.proofs.Common.{◌≡◌, ℕ, List, Option, Some, None, IfSome, ap}
use Rattle.std.specs.Option.{option_map}
use Rattle.std.proofs.lemmas.Option.{same_Some}
use Rattle.dev_core.specs.declared.kind.Kind.{Kind}
use Rattle.lab_num.specs.declared.key.Member.{Member}
use Rattle.lab_num.specs.declared.number.Micros.{Micros}
use Rattle.lab_state.specs.Hub.{Hub}
use Rattle.lab_snap.specs.declared.hub.SavedHub.{SavedHub}
use Rattle.lab_snap.specs.Saved.{saved_hub}

-- what is said of a hub that is saved with these parts is said of the hub that has them
pub hub_with : (P : SavedHub → Type 0) (hub : Option Hub) (kind : Kind) (name : List ℕ) (delay : ℕ)
    (members : List Member) → Some kind ≡ option_map (λ hub. hub.kind) hub →
    Some name ≡ option_map (λ hub. hub.name) hub → Some delay ≡ option_map (λ hub. hub.delay) hub →
    Some members ≡ option_map (λ hub. hub.members) hub →
    P (record { kind = kind; name = name; delay = delay; members = members }) →
    IfSome hub (λ hub. P (saved_hub hub))
hub_with P None kind name delay members k n d m is = tt
hub_with P (Some hub) kind name delay members k n d m is =
    rw (same_Some _ _ k, same_Some _ _ n, same_Some _ _ d, same_Some _ _ m) at is

abbrev micros : ℕ → Micros
micros n = record { 0 = n }

pub time_of : (time : Micros) (n : ℕ) → time.0 ≡ n → time ≡ record { 0 = n }
time_of time n is = ap micros is
