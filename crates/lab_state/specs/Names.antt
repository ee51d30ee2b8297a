-- How boards and hubs are found by name, and the names that the log prints.
use Rattle.std.specs.Prelude.{◌≡◌, ℕ, Bool, false, ◌||◌, ◌==◌, List, [], length, map, find, slice_get, Option, None}
use Rattle.std.specs.Prelude.{Some}
use Rattle.std.specs.Prelude.{is_some, option_and_then}
use Rattle.std.specs.List.{position, range_with_len, All, AllPairs}
use Rattle.std.specs.Option.{option_map, option_map_or}
use Rattle.std.specs.Str.{bytes_eq}
use Rattle.lab_num.specs.declared.key.Member.{Member}
use Rattle.dev_core.specs.declared.kind.Kind.{Kind}
use Rattle.sys_bus.specs.declared.plan.BoardPlan.{BoardPlan}
use Rattle.sys_bus.specs.declared.plan.NamedWhat.{NamedWhat}
use Rattle.sys_bus.specs.declared.plan.NamedWhat.TheVariants.{Part}
use Rattle.sys_bus.specs.declared.region.RegionKind.TheVariants.{Dev}
use Rattle.log_merge.specs.declared.names.BoardNames.{BoardNames}
use Rattle.log_merge.specs.declared.names.Names.{Names}
use Rattle.lab_state.specs.Board.{Board}
use Rattle.lab_state.specs.Lab.{Lab}
use Rattle.lab_state.specs.One.{connected}

-- no two of the names are one
abbrev pub NamesDiffer : List (List ℕ) → Type 0
NamesDiffer names = AllPairs (λ a b. bytes_eq a b ≡ false) names

-- no two boards, no two hubs, and no board and hub of one name
pub record AreNames (boards hubs : List (List ℕ)) : Type 0 where
  pub boards_differ : NamesDiffer boards
  pub hubs_differ : NamesDiffer hubs
  pub apart : All (λ board. All (λ hub. bytes_eq hub board ≡ false) hubs) boards

-- the number of the first board of this name
abbrev pub board_named : Lab → List ℕ → Option ℕ
board_named lab name = position (λ board. bytes_eq board.name name) lab.boards

-- the number of the first hub of this name
abbrev pub hub_named : Lab → List ℕ → Option ℕ
hub_named lab name = position (λ hub. bytes_eq hub.name name) lab.hubs

-- the kind of devices that the hub of this name connects
abbrev pub kind_named : Lab → List ℕ → Option Kind
kind_named lab name =
    option_and_then (λ n. option_map (λ hub. hub.kind) (slice_get lab.hubs n)) (hub_named lab name)

-- whether a board or a hub has the name
abbrev pub is_taken : Lab → List ℕ → Bool
is_taken lab name = is_some (board_named lab name) || is_some (hub_named lab name)

-- the laboratory with a member more in the hub of this number, if there is one
abbrev pub connected_to : Lab → Option ℕ → Member → Lab
connected_to lab None m = lab
connected_to lab (Some hub) m = connected lab hub m

-- whether a name of a plan is that of the device of this number
abbrev pub is_device : ℕ → NamedWhat → Bool
is_device dev (Part (Dev other)) = other == dev
is_device dev _ = false

-- the name of a device in a plan
abbrev pub device_name : BoardPlan → ℕ → List ℕ
device_name plan dev = option_map_or (λ named. named.name) (find (λ named. is_device dev named.what) plan.names) []

-- the names of the devices of a plan, in order of their numbers
abbrev pub device_names : BoardPlan → List (List ℕ)
device_names plan = map (device_name plan) (range_with_len 0 (length plan.kinds))

-- the names of a board and of its devices; a board without a plan has none
abbrev pub board_names : Board → BoardNames
board_names board =
    record { name = board.name; devices = option_map_or (λ v. device_names v.space.plan) board.view [] }

-- the names of all boards
abbrev pub names : Lab → Names
names lab = record { boards = map board_names lab.boards }
