-- Hubs and the lists of their members. Where a member is connected that was in no hub, no member is in the hubs twice.
use Rattle.std.proofs.Common.{◌≡◌, ◌∙◌, ap, refl, ℕ, zero, suc, ◌<◌, Bool, true, false}
use Rattle.std.proofs.Common.{◌||◌, List, [], ◌∷◌, ◌++◌, length}
use Rattle.std.proofs.Common.{append_assoc, find, unwrap_or, cond, Some, arith}
use Rattle.std.specs.Prelude.{is_some}
use Rattle.std.specs.Option.{option_map_or}
use Rattle.std.specs.Cmp.{IsEquivalence}
use Rattle.std.specs.List.{list_any, flat_map}
use Rattle.std.specs.List.Sorted.{IsPermutation}
use Rattle.std.proofs.lemmas.Cmp.{and_equiv, on_equiv, nat_eq_equiv}
use Rattle.std.proofs.lemmas.List.Folds.{list_any-append}
use Rattle.std.proofs.lemmas.List.Sorted.{IsPermutation-to_front, IsPermutation-append_right}
use Rattle.std.proofs.lemmas.Map.Keys.{IsDistinct-push, IsDistinct-IsPermutation}
use Rattle.lab_num.specs.declared.key.Member.{Member}
use Rattle.lab_num.specs.Key.{same_member}
use Rattle.lab_num.specs.Change.{change_at}
use Rattle.lab_num.specs.Route.{has_member, is_connected, connected, others, route, StandOnce}
use Rattle.uart_hub.specs.Hub.{Hub, members_of, with_member}

-- `same_member` is an equivalence
member_equiv : IsEquivalence same_member
member_equiv =
    and_equiv (on_equiv (λ (m : Member). m.board.0) nat_eq_equiv) (on_equiv (λ (m : Member). m.dev) nat_eq_equiv)

abbrev all_of : List (List Member) → List Member
all_of hubs = flat_map (λ hub. hub) hubs

-- a member more at the end of a hub is a member more of all
joined :
    (hubs : List (List Member)) (hub : ℕ) (m : Member) → hub < length hubs →
    IsPermutation (all_of hubs ++ m ∷ []) (all_of (connected hubs hub m))
joined [] hub m below = absurd (omega arith)
joined (h ∷ hs) zero m below =
    rw (append_assoc h (all_of hs) (m ∷ []), append_assoc h (m ∷ []) (all_of hs))
    (IsPermutation-append_right h (all_of hs ++ m ∷ []) (m ∷ all_of hs) (IsPermutation-to_front (all_of hs) m))
joined (h ∷ hs) (suc k) m below =
    rw (append_assoc h (all_of hs) (m ∷ []))
    (IsPermutation-append_right h (all_of hs ++ m ∷ []) (all_of (connected hs k m)) (joined hs k m (omega arith)))

-- the two ways to look for a member in a hub
turned : (hub : List Member) (m : Member) → list_any (same_member m) hub ≡ has_member hub m
turned [] m = refl
turned (other ∷ rest) m = λ i. member_equiv.symm m other i || turned rest m i

-- a member is in some hub where it is among the members of all
among : (hubs : List (List Member)) (m : Member) → list_any (same_member m) (all_of hubs) ≡ is_connected hubs m
among [] m = refl
among (h ∷ hs) m = list_any-append (same_member m) h (all_of hs) ∙ (λ i. turned h m i || among hs m i)

-- a member that was nowhere is in the hubs once
pub connected_once :
    (hubs : List (List Member)) (hub : ℕ) (m : Member) →
    hub < length hubs → is_connected hubs m ≡ false → StandOnce hubs → StandOnce (connected hubs hub m)
connected_once hubs hub m below absent once =
    IsDistinct-IsPermutation same_member member_equiv.symm (all_of hubs ++ m ∷ [])
    (all_of (connected hubs hub m))
    (joined hubs hub m below)
    (IsDistinct-push member_equiv (all_of hubs) m once (among hubs m ∙ absent))

-- ---- hubs, by the lists of their members

-- a hub that has a member is found where some hub has it
pub found-connected :
    (hubs : List Hub) (m : Member) →
    is_some (find (λ hub. has_member hub.members m) hubs) ≡ is_connected (members_of hubs) m
found-connected [] m = refl
found-connected (h ∷ hs) m = by_test (has_member h.members m) (found-connected hs m)
  where
    by_test :
        (here : Bool) →
        is_some (find (λ hub. has_member hub.members m) hs) ≡ is_connected (members_of hs) m →
        is_some (cond here (Some h) (find (λ hub. has_member hub.members m) hs))
        ≡ (here || is_connected (members_of hs) m)
    by_test true rest = refl
    by_test false rest = rest

-- the route of a member of a hub that was found, and of one that was not
pub route-found :
    (hubs : List Hub) (m : Member) →
    option_map_or (λ (hub : Hub). others hub.members m) (find (λ hub. has_member hub.members m) hubs) []
    ≡ route (members_of hubs) m
route-found [] m = refl
route-found (h ∷ hs) m = by_test (has_member h.members m) (route-found hs m)
  where
    by_test :
        (here : Bool) →
        option_map_or (λ (hub : Hub). others hub.members m) (find (λ hub. has_member hub.members m) hs) []
        ≡ route (members_of hs) m →
        option_map_or (λ (hub : Hub). others hub.members m)
        (cond here (Some h) (find (λ hub. has_member hub.members m) hs)) []
        ≡ others (unwrap_or (cond here (Some h.members) (find (λ hub. has_member hub m) (members_of hs))) []) m
    by_test true rest = refl
    by_test false rest = rest

-- and its members
pub members-connected :
    (hubs : List Hub) (i : ℕ) (m : Member) →
    members_of (change_at hubs i (with_member m)) ≡ connected (members_of hubs) i m
members-connected [] i m = refl
members-connected (h ∷ hs) zero m = refl
members-connected (h ∷ hs) (suc i) m = ap (λ rest. h.members ∷ rest) (members-connected hs i m)
