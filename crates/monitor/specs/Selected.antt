-- The selected board, and what stands on it under a name.
use Rattle.std.specs.Prelude.{ℕ, nat_eq, nat_lt, Bool, false, is_none, if◌then◌else◌, List, length, drop, find, codes}
use Rattle.std.specs.Prelude.{Option, None, Some, option_and_then, Result, Ok, Err}
use Rattle.std.specs.List.{position, starts_with}
use Rattle.std.specs.Option.{ok_or, option_map, option_map_or}
use Rattle.std.specs.Str.{bytes_eq}
use Rattle.lab_num.specs.declared.key.Member.{Member}
use Rattle.sys_bus.specs.declared.plan.BoardPlan.{BoardPlan}
use Rattle.sys_bus.specs.declared.plan.NamedWhat.{NamedWhat}
use Rattle.sys_bus.specs.declared.plan.NamedWhat.TheVariants.{Part}
use Rattle.sys_bus.specs.declared.region.RegionKind.TheVariants.{Dev}
use Rattle.board.specs.Changes.{is_shown_kind}
use Rattle.board.specs.View.{View}
use Rattle.lab_state.specs.Lab.{Lab}
use Rattle.lab_state.specs.One.{changed, kind_at, view_of}
use Rattle.resc_vars.specs.declared.cause.ScriptCause.{ScriptCause}
use Rattle.resc_vars.specs.declared.cause.ScriptCause.TheVariants.{NoBoard, Platform, Name, Kind}
use Rattle.monitor.specs.Refusal.{◌>>=◌, require}
use Rattle.monitor.specs.State.{State}

-- a board with a platform: its number, and what stands under it
pub record Equipped : Type 0 where
  pub number : ℕ
  pub view : View

-- a number, where a board has it
abbrev pub if_board : Lab → ℕ → Option ℕ
if_board lab b = if nat_lt b (length lab.boards) then Some b else None

-- S4: the board that was selected
abbrev pub selected : State → Result ℕ ScriptCause
selected s = ok_or (option_and_then (if_board s.lab) s.selected) NoBoard

-- S4, S15: the selected board, which has no platform yet
abbrev pub bare : State → Result ℕ ScriptCause
bare s = do
  b ← selected s
  none ← require (is_none (view_of s.lab b)) Platform
  Ok b

-- what stands under the number of a board that has a platform
abbrev pub equipped_as : ℕ → Option View → Result Equipped ScriptCause
equipped_as b None = Err Platform
equipped_as b (Some v) = Ok (record { number = b; view = v })

-- S4, S15: the selected board, which has its platform
abbrev pub equipped : State → Result Equipped ScriptCause
equipped s = do
  b ← selected s
  equipped_as b (view_of s.lab b)

-- the state with that board changed
abbrev pub with_board : State → Equipped → (View → View) → State
with_board s on f = record s { lab = changed s.lab on.number f }

-- the name of an entry in a word, of which one prefix `sysbus.` is taken off
abbrev pub entry_name : List ℕ → List ℕ
entry_name word = if starts_with nat_eq word (codes "sysbus.") then drop 7 word else word

-- what has this name in a plan
abbrev pub entry_in : BoardPlan → List ℕ → Option NamedWhat
entry_in plan name = option_map (λ named. named.what) (find (λ named. bytes_eq named.name name) plan.names)

-- S7: what a word names on a board
abbrev pub entry : Equipped → List ℕ → Result NamedWhat ScriptCause
entry on word = ok_or (entry_in on.view.space.plan (entry_name word)) Name

-- the number of the processor of this name: its place among the plan's
abbrev pub hart_in : BoardPlan → List ℕ → Option ℕ
hart_in plan name = position (λ cpu. bytes_eq cpu name) plan.cpus

-- S7, S8: the number of the processor that a word names on a board
abbrev pub processor : Equipped → List ℕ → Result ℕ ScriptCause
processor on word = do
  what ← entry on word
  ok_or (hart_in on.view.space.plan (entry_name word)) Kind

-- a device of a board
abbrev pub member : ℕ → ℕ → Member
member b dev = record { board = record { 0 = b }; dev = dev }

-- whether a device may be shown
abbrev pub speaks : State → Member → Bool
speaks s m = option_map_or is_shown_kind (kind_at s.lab.boards m) false

-- S8: what a word names is a device that may be shown
abbrev pub speaker : State → ℕ → NamedWhat → Result Member ScriptCause
speaker s b (Part (Dev dev)) = if speaks s (member b dev) then Ok (member b dev) else Err Kind
speaker s b _ = Err Kind
