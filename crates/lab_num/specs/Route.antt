-- Hubs, as the lists of their members in order of connection, and to whom a hub hands on what a member sends.
use Rattle.std.specs.Prelude.{ℕ, Bool, not, List, [], ◌∷◌, ◌++◌, filter, find, unwrap_or, slice_set, slice_index_or}
use Rattle.std.specs.List.{list_any, flat_map, IsDistinct}
use Rattle.lab_num.specs.declared.key.Member.{Member}
use Rattle.lab_num.specs.Key.{same_member}

-- whether a hub has a member
abbrev pub has_member : List Member → Member → Bool
has_member hub m = list_any (λ other. same_member other m) hub

-- whether some hub has it
abbrev pub is_connected : List (List Member) → Member → Bool
is_connected hubs m = list_any (λ hub. has_member hub m) hubs

-- the members of the first hub that has a member, and none where no hub has it
abbrev pub hub_of : List (List Member) → Member → List Member
hub_of hubs m = unwrap_or (find (λ hub. has_member hub m) hubs) []

-- the members of a hub other than m
abbrev pub others : List Member → Member → List Member
others hub m = filter (λ other. not (same_member other m)) hub

-- the other members of the hub of m
abbrev pub route : List (List Member) → Member → List Member
route hubs m = others (hub_of hubs m) m

-- the hubs with a member more at the end of one of them
abbrev pub connected : List (List Member) → ℕ → Member → List (List Member)
connected hubs hub m = slice_set hubs hub (slice_index_or hubs hub [] ++ m ∷ [])

-- no member is in two hubs, nor twice in one
abbrev pub StandOnce : List (List Member) → Type 0
StandOnce hubs = IsDistinct same_member (flat_map (λ hub. hub) hubs)
