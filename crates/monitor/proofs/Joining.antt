-- What comes of a device that goes into a hub.
use Rattle.std.proofs.Common.{◌≡◌, ◌∙◌, ℕ, List, Result, Ok, Err, refl, sym, ap}
use Rattle.std.specs.Prelude.{not, is_some}
use Rattle.lab_num.specs.Route.{is_connected}
use Rattle.lab_num.specs.declared.key.Member.{Member}
use Rattle.lab_state.specs.Hub.{members_of}
use Rattle.lab_state.specs.Names.{connected_to, hub_named, kind_named}
use Rattle.lab_state.specs.One.{kind_at}
use Rattle.resc_vars.specs.declared.cause.ScriptCause.{ScriptCause}
use Rattle.resc_vars.specs.declared.cause.ScriptCause.TheVariants as cause
use Rattle.sys_bus.specs.declared.plan.NamedWhat.{NamedWhat}
use Rattle.monitor.specs.Answer.{Done, leaves}
use Rattle.monitor.specs.Hubs.{agree, connect}
use Rattle.monitor.specs.Inner.Reading.{joining}
use Rattle.monitor.specs.Refusal.{◌>>=◌, require}
use Rattle.monitor.specs.Selected.{Equipped, entry, equipped, speaker}
use Rattle.monitor.specs.State.{State}

-- a device is put into a hub, unless their kinds differ or it is in one
abbrev pub put : State → List ℕ → Member → Result Done ScriptCause
put s hub m = do
  same ← require (agree (kind_named s.lab hub) (kind_at s.lab.boards m)) cause.Kind
  free ← require (not (is_connected (members_of s.lab.hubs) m)) cause.Connected
  Ok (leaves (record s { lab = connected_to s.lab (hub_named s.lab hub) m }))

module _ (s : State) (dev hub : List ℕ) where
  from_there :
      (on : Equipped) (what : NamedWhat) (there : Result (Unit {0}) ScriptCause) →
      (there >>= λ is. speaker s on.number what >>= put s hub)
      ≡ ((there >>= λ is. speaker s on.number what) >>= put s hub)
  from_there on what (Ok is) = refl
  from_there on what (Err cause) = refl

  from_what :
      (on : Equipped) (what : Result NamedWhat ScriptCause) →
      (what >>= λ what. require (is_some (hub_named s.lab hub)) cause.Name
      >>= λ is. speaker s on.number what >>= put s hub)
      ≡ ((what >>= λ what. require (is_some (hub_named s.lab hub)) cause.Name
      >>= λ is. speaker s on.number what) >>= put s hub)
  from_what on (Ok what) = from_there on what (require (is_some (hub_named s.lab hub)) cause.Name)
  from_what on (Err cause) = refl

  from_on :
      (on : Result Equipped ScriptCause) →
      (on >>= λ on. entry on dev >>= λ what. require (is_some (hub_named s.lab hub)) cause.Name
      >>= λ is. speaker s on.number what >>= put s hub)
      ≡ ((on >>= λ on. entry on dev >>= λ what. require (is_some (hub_named s.lab hub)) cause.Name
      >>= λ is. speaker s on.number what) >>= put s hub)
  from_on (Ok on) = from_what on (entry on dev)
  from_on (Err cause) = refl

  -- what a device that goes into a hub comes to
  pub connect_by : (r : Result Member ScriptCause) → r ≡ joining s dev hub → connect s dev hub ≡ (r >>= put s hub)
  connect_by r is = from_on (equipped s) ∙ ap (λ r. r >>= put s hub) (sym is)
