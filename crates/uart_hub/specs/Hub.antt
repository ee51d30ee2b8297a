-- A hub, and how long it holds back what its members send.
use Rattle.std.specs.Prelude.{ℕ, List, [], ◌∷◌, ◌++◌, map, find, Option}
use Rattle.std.specs.Option.{option_map}
use Rattle.lab_num.specs.declared.key.Member.{Member}
use Rattle.lab_num.specs.Route.{has_member}

-- the delay in microseconds, and the members in order of connection
pub record Hub : Type 0 where
  pub delay : ℕ
  pub members : List Member

-- the hubs as the lists of their members
abbrev pub members_of : List Hub → List (List Member)
members_of hubs = map (λ hub. hub.members) hubs

-- the delay of the hub of a member, if it is in one
abbrev pub delay_of : List Hub → Member → Option ℕ
delay_of hubs m = option_map (λ hub. hub.delay) (find (λ hub. has_member hub.members m) hubs)

-- a hub with a member more at its end
abbrev pub with_member : Member → Hub → Hub
with_member m hub = record hub { members = hub.members ++ m ∷ [] }
