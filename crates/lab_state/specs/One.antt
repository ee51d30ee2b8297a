-- One board, one device or one hub of a laboratory.
use Rattle.std.specs.Prelude.{ℕ, ◌∷◌, [], ◌++◌, ◌≡◌, ◌≤◌, length, take, List, Option, None, Some, is_none, slice_get}
use Rattle.std.specs.Prelude.{option_and_then}
use Rattle.std.specs.List.{position}
use Rattle.std.specs.Option.{option_map}
use Rattle.lab_num.specs.declared.key.Member.{Member}
use Rattle.dev_core.specs.declared.kind.Kind.{Kind}
use Rattle.board.specs.Changes.{with_bytes}
use Rattle.board.specs.View.{View}
use Rattle.lab_state.specs.Board.{Board}
use Rattle.lab_state.specs.Hub.{Hub}
use Rattle.lab_state.specs.Lab.{Lab, Seen}
use Rattle.lab_num.specs.Change.{change_at}

-- what stands under the number of a board
abbrev pub view_at : List Board → ℕ → Option View
view_at boards b = option_and_then (λ board. board.view) (slice_get boards b)

abbrev pub view_of : Lab → ℕ → Option View
view_of lab b = view_at lab.boards b

-- the number of the first board that has no plan, if there is one
abbrev pub first_without : List Board → Option ℕ
first_without boards = position (λ board. is_none board.view) boards

-- every board has a plan
abbrev pub HaveAllPlans : Lab → Type 0
HaveAllPlans lab = first_without lab.boards ≡ None

-- the kind of a device, if its board has a plan and the device is one of it
abbrev pub kind_at : List Board → Member → Option Kind
kind_at boards m = option_and_then (λ v. slice_get v.space.plan.kinds m.dev) (view_at boards m.board.0)

-- a board with what stands under its name changed
abbrev pub with_view : (View → View) → Board → Board
with_view f board = record board { view = option_map f board.view }

-- the laboratory with one board changed
abbrev pub changed : Lab → ℕ → (View → View) → Lab
changed lab b f = record lab { boards = change_at lab.boards b (with_view f) }

-- a laboratory in which some of the first of these bytes were written into the memories of a board
abbrev pub WritesPrefix : Seen → Seen → ℕ → ℕ → List ℕ → Type 0
WritesPrefix old new b at bytes =
    (n : ℕ) × ((n ≤ length bytes)
    × (new ≡ record old { lab = changed old.lab b (λ v. with_bytes v at (take n bytes)) }))

-- the laboratory with something put under the name of a board
abbrev pub fitted : Lab → ℕ → View → Lab
fitted lab b v = record lab { boards = change_at lab.boards b (λ board. record board { view = Some v }) }

-- a hub with a member more at its end
abbrev pub with_member : Member → Hub → Hub
with_member m hub = record hub { members = hub.members ++ m ∷ [] }

-- the laboratory with a member more in one of its hubs
abbrev pub connected : Lab → ℕ → Member → Lab
connected lab hub m = record lab { hubs = change_at lab.hubs hub (with_member m) }
