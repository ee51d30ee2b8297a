-- What the parts of a command have read of files and of the laboratory.
use Rattle.std.specs.Prelude.{◌≡◌, ℕ, List, is_some, Result, Ok, Err}
use Rattle.lab_io.specs.Asked.{AskedNames}
use Rattle.lab_io.specs.Known.{grown}
use Rattle.lab_num.specs.declared.key.Member.{Member}
use Rattle.lab_state.specs.Names.{hub_named}
use Rattle.repl_build.specs.Plan.{built}
use Rattle.repl_files.specs.Loading.{Loading, Joined}
use Rattle.repl_read.specs.declared.entry.Entry.{Entry}
use Rattle.resc_vars.specs.declared.cause.ScriptCause.{ScriptCause}
use Rattle.resc_vars.specs.declared.cause.ScriptCause.TheVariants.{Name}
use Rattle.sys_bus.specs.declared.plan.BoardPlan.{BoardPlan}
use Rattle.monitor.specs.declared.stop.Stop.{Stop}
use Rattle.monitor.specs.Boards.{load_onto}
use Rattle.monitor.specs.Inner.Ruling.{IsCarried}
use Rattle.monitor.specs.Refusal.{◌>>=◌, require}
use Rattle.monitor.specs.Selected.{entry, equipped, speaker}
use Rattle.monitor.specs.State.{State, LinePlace}

-- the device of the selected board that goes into a hub of this name
abbrev pub joining : State → List ℕ → List ℕ → Result Member ScriptCause
joining s dev hub = do
  on ← equipped s
  what ← entry on dev
  there ← require (is_some (hub_named s.lab hub)) Name
  speaker s on.number what

-- the files of a platform were read as this plan, or stop a command that loads them so
abbrev pub IsPlanRead :
    Loading → Result BoardPlan Stop → AskedNames → AskedNames → Type 0
IsPlanRead loading (Ok plan) log log' =
    (entries : List Entry)
    × (loading.outcome ≡ Joined entries)
    × (built entries ≡ Ok plan)
    × (log' ≡ grown log loading.names)
IsPlanRead loading (Err stop) log log' =
    (s after : State) (place : LinePlace) (b : ℕ) →
    IsCarried (load_onto s place loading (Ok b)) place (Err stop) after log log'
