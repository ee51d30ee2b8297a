-- A hub of a laboratory.
use Rattle.std.specs.Prelude.{ℕ, List, map, find, Option}
use Rattle.std.specs.Option.{option_map}
use Rattle.lab_num.specs.declared.key.Member.{Member}
use Rattle.lab_num.specs.Route.{has_member}
use Rattle.dev_core.specs.declared.kind.Kind.{Kind}

-- its name, the kind of devices that it connects, how long it holds back what its members send, in microseconds, and
-- its members in order of connection
pub record Hub : Type 0 where
  pub name : List ℕ
  pub kind : Kind
  pub delay : ℕ
  pub members : List Member

-- the hubs as the lists of their members
abbrev pub members_of : List Hub → List (List Member)
members_of hubs = map (λ hub. hub.members) hubs

-- the delay of the hub of a device, if it is in one
abbrev pub delay_of : List Hub → Member → Option ℕ
delay_of hubs m = option_map (λ hub. hub.delay) (find (λ hub. has_member hub.members m) hubs)
