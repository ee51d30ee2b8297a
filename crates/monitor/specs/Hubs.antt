-- Commands that make hubs, connect devices to them and show what devices send.
use Rattle.std.specs.Prelude.{ℕ, Bool, false, not, is_some, List, [], ◌∷◌, ◌++◌, Option, Some, Result, Ok}
use Rattle.lab_num.specs.Route.{is_connected}
use Rattle.dev_core.specs.declared.kind.Kind.{Kind}
use Rattle.dev_core.specs.declared.kind.Kind.TheVariants as kind
use Rattle.dev_core.specs.Kind.{is_kind}
use Rattle.board.specs.Changes.{with_shown}
use Rattle.lab_state.specs.Hub.{members_of}
use Rattle.lab_state.specs.Lab.{Lab}
use Rattle.lab_state.specs.Names.{connected_to, hub_named, is_taken, kind_named}
use Rattle.lab_state.specs.One.{kind_at}
use Rattle.resc_vars.specs.declared.cause.ScriptCause.{ScriptCause}
use Rattle.resc_vars.specs.declared.cause.ScriptCause.TheVariants as cause
use Rattle.monitor.specs.Answer.{Done, leaves}
use Rattle.monitor.specs.Refusal.{◌>>=◌, require}
use Rattle.monitor.specs.Selected.{equipped, entry, speaker, with_board}
use Rattle.monitor.specs.State.{State}

-- a laboratory with a hub more, which connects devices of this kind and holds back for so long what they send
abbrev pub with_hub : Lab → List ℕ → Kind → ℕ → Lab
with_hub lab name devices delay =
    record lab { hubs = lab.hubs ++ record { name = name; kind = devices; delay = delay; members = [] } ∷ [] }

-- such a hub is made under this name
abbrev pub hub_for : Kind → State → List ℕ → ℕ → Result Done ScriptCause
hub_for devices s name delay = do
  free ← require (not (is_taken s.lab name)) cause.Taken
  Ok (leaves (record s { lab = with_hub s.lab name devices delay }))

-- emulation CreateUARTHub name [delay]
abbrev pub uart_hub : State → List ℕ → ℕ → Result Done ScriptCause
uart_hub s name delay = hub_for kind.Uart s name delay

-- emulation CreateCANHub name [delay]
abbrev pub can_hub : State → List ℕ → ℕ → Result Done ScriptCause
can_hub s name delay = hub_for kind.Can s name delay

-- whether both are there and the same
abbrev pub agree : Option Kind → Option Kind → Bool
agree (Some a) (Some b) = is_kind a b
agree _ _ = false

-- connector Connect dev hub
abbrev pub connect : State → List ℕ → List ℕ → Result Done ScriptCause
connect s dev hub = do
  on ← equipped s
  what ← entry on dev
  there ← require (is_some (hub_named s.lab hub)) cause.Name
  m ← speaker s on.number what
  same ← require (agree (kind_named s.lab hub) (kind_at s.lab.boards m)) cause.Kind
  free ← require (not (is_connected (members_of s.lab.hubs) m)) cause.Connected
  Ok (leaves (record s { lab = connected_to s.lab (hub_named s.lab hub) m }))

-- showAnalyzer dev
abbrev pub show : State → List ℕ → Result Done ScriptCause
show s dev = do
  on ← equipped s
  what ← entry on dev
  m ← speaker s on.number what
  Ok (leaves (with_board s on (λ v. with_shown v m.dev)))
