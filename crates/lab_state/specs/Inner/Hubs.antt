-- Hubs whose members and delays are kept apart from their names.
use Rattle.std.specs.Prelude.{◌≡◌, ℕ, List, [], ◌∷◌, length, map}
use Rattle.uart_hub.specs.Hub as uart_hub
use Rattle.dev_core.specs.declared.kind.Kind.{Kind}
use Rattle.lab_state.specs.Hub.{Hub, members_of}

-- the name of a hub, and the kind of devices that it connects
abbrev pub Head : Type 0
Head = List ℕ × Kind

-- a hub of this name and kind, and of this delay and these members
abbrev pub hub_by : Head → uart_hub.Hub → Hub
hub_by head part = record { name = head.0; kind = head.1; delay = part.delay; members = part.members }

abbrev pub hubs_of : List Head → List uart_hub.Hub → List Hub
hubs_of [] parts = []
hubs_of (head ∷ heads) [] = []
hubs_of (head ∷ heads) (part ∷ parts) = hub_by head part ∷ hubs_of heads parts

-- a hub apart from its delay and its members
abbrev pub head_of : Hub → Head
head_of hub = (hub.name, hub.kind)

-- and its delay and its members
abbrev pub inside_of : Hub → uart_hub.Hub
inside_of hub = record { delay = hub.delay; members = hub.members }

-- hubs, their names and kinds, and their delays and members
pub record AreParts (names : List Head) (parts : List uart_hub.Hub) (hubs : List Hub) : Type 0 where
  pub names_are : map head_of hubs ≡ names
  pub parts_are : map inside_of hubs ≡ parts
  pub members_are : members_of hubs ≡ uart_hub.members_of parts
  pub names_long : length hubs ≡ length names
  pub parts_long : length hubs ≡ length parts
