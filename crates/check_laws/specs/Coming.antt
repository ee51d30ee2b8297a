-- Where a run of a script comes to, what it saves and what it loads.
use Rattle.std.specs.Prelude.{◌≡◌, ℕ, zero, suc, false, if◌then◌else◌, List, ◌∷◌, ◌++◌, Option, None, Some}
use Rattle.std.specs.Prelude.{option_and_then}
use Rattle.std.specs.FinMap.{get, insert}
use Rattle.std.specs.Option.{option_map}
use Rattle.lab_io.specs.Held.{Held}
use Rattle.lab_io.specs.Store.{StoreUse, get_of}
use Rattle.lab_snap.specs.Saved.{spelling}
use Rattle.lab_snap.specs.Snapshot.{snapshot_of}
use Rattle.lab_state.specs.Lab.{Lab}
use Rattle.lab_state.specs.Run.{run}
use Rattle.log_text.specs.declared.line.OpenLine.{OpenLine}
use Rattle.monitor.specs.declared.setting.Setting.{Setting}
use Rattle.monitor.specs.Answer.{Answer, Goes, Saves, Loads, Ends, Faults, Misses}
use Rattle.monitor.specs.Command.{did}
use Rattle.monitor.specs.State.{State, LinePlace, bodies_of, joined, started}
use Rattle.lab_top.specs.Content.{Readable, content_of}
use Rattle.lab_top.specs.Headline.{kept_by}
use Rattle.lab_top.specs.Transcript.{is_large, is_occupied}

-- where a script stands between two commands: what is kept, and the state
pub record Standpoint : Type 0 where
  pub kept : Held
  pub state : State

abbrev pub standpoint : Held → State → Standpoint
standpoint kept s = record { kept = kept; state = s }

-- a snapshot that is small enough was saved; a check has only asked
abbrev pub after_save : Held → List ℕ → State → List ℕ → Option Standpoint
after_save kept name next bytes =
    if is_large bytes then None else Some (standpoint (if next.dry then kept else insert kept name bytes) next)

-- what a snapshot holds, if it is one
abbrev pub read_snapshot : List ℕ → Option (Lab × List OpenLine)
read_snapshot bytes = if is_large bytes then None else snapshot_of bytes

abbrev pub after_load : Held → List ℕ → State → Option Standpoint
after_load kept name next =
    if is_occupied next.lab then None
    else option_map (λ found. standpoint kept (joined (bodies_of next) found.0 found.1))
    (option_and_then read_snapshot (get kept name))

-- where a script stands after a command that is answered so, if it goes on
abbrev pub after_answer : Held → Answer → Option Standpoint
after_answer kept (Goes text next) = Some (standpoint kept next)
after_answer kept (Saves name place next) = after_save kept name next (spelling next.lab next.lines)
after_answer kept (Loads name place next) = after_load kept name next
after_answer kept Ends = None
after_answer kept (Faults fault) = None
after_answer kept Misses = None

-- where a script stands after so many commands, if it comes so far
abbrev pub comes_to : Held → ℕ → Standpoint → Option Standpoint
comes_to held zero from = Some from
comes_to held (suc n) from =
    option_and_then (comes_to held n) (after_answer from.kept (did run held from.state).answer)

-- each snapshot that a script comes to save from here on is small enough to be saved
abbrev pub SavesFit : Held → Held → State → Type 0
SavesFit held kept s =
    (n : ℕ) (there : Standpoint) (name : List ℕ) (place : LinePlace) (next : State) →
    comes_to held n (standpoint kept s) ≡ Some there → (did run held there.state).answer ≡ Saves name place next →
    is_large (spelling next.lab next.lines) ≡ false

-- Calls on a store that keeps this get nothing that is not in an old one: where one of them gets what is kept under a
-- name, the old store has the same there.
abbrev pub GetsOld : Held → Held → List StoreUse → Type 0
GetsOld old kept used =
    (done more : List StoreUse) (name : List ℕ) → used ≡ done ++ get_of name ∷ more →
    get old name ≡ get (kept_by kept done) name

-- the same of a script before its first line, by what its file holds
abbrev pub ScriptFits : Held → Held → List ℕ → Setting → Type 0
ScriptFits held kept script setting =
    (text : List ℕ) → content_of script (get held script) ≡ Readable text →
    SavesFit held kept (started script text setting)
