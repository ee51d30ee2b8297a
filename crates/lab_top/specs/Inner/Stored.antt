-- What became of a command for the store.
use Rattle.std.specs.Prelude.{◌≡◌, ℕ, false, List, Option, None, Some, Result, Ok, Err}
use Rattle.lab_io.specs.Asked.{AskedNames}
use Rattle.lab_io.specs.Held.{Held}
use Rattle.lab_io.specs.declared.store.Store.{Ghosts as StoreGhosts}
use Rattle.lab_state.specs.Lab.{Lab}
use Rattle.log_text.specs.declared.line.OpenLine.{OpenLine}
use Rattle.monitor.specs.State.{LinePlace, bodies_of, joined}
use Rattle.monitor.specs.Step.{Running, going, line_in}
use Rattle.resc_vars.specs.declared.cause.ScriptCause.TheVariants.{Snapshot}
use Rattle.lab_top.specs.declared.snapshots.StoreHalt.{StoreHalt}
use Rattle.lab_top.specs.declared.snapshots.StoreHalt.TheVariants.{Refused, Unstored, Memory}
use Rattle.lab_top.specs.declared.status.Status.TheVariants as end_by
use Rattle.lab_top.specs.Headline.{Course, Outside}
use Rattle.lab_snap.specs.Snapshot.{snapshot_of}
use Rattle.lab_top.specs.declared.snapshots.SnapshotLine.{SnapshotLine}
use Rattle.lab_top.specs.declared.status.Status.{Status}
use Rattle.lab_top.specs.Transcript.{Further, Transcript, loading, refused}
use Rattle.lab_top.specs.Inner.Course.{GoesOn}

-- what is told of the outside of a run that has written this and asked for these names, by its store
abbrev pub store_of : {S : Type 0} → StoreGhosts S → Option (List ℕ) → AskedNames → S → Outside
store_of store written asked s =
    record { written = written; asked = asked; used = store.uses s; kept = store.kept s }

-- a command at this place was carried out, and the run goes on, or is refused, or is cut short
abbrev pub IsStored :
    Transcript → Held → Further → LinePlace → Outside → Outside → Result Running (StoreHalt Running) → Type 0
IsStored all kept further place old mid (Ok monitor) = GoesOn all kept old mid (λ now. further now monitor.state)
IsStored all kept further place old mid (Err (Refused cause monitor)) =
    GoesOn all kept old mid (λ now. refused now place monitor.state cause)
IsStored all kept further place old mid (Err Unstored) = Course all kept end_by.Unstored old mid
IsStored all kept further place old mid (Err Memory) = Course all kept end_by.Memory old mid

-- A monitor goes on with what was read of a snapshot, or is refused as it was, or memory ran out. It has as many
-- workers as before.
abbrev pub IsRestored : Running → Option (Lab × List OpenLine) → Result Running (StoreHalt Running) → Type 0
IsRestored m snapshot (Ok monitor) =
    (lab : Lab) × (lines : List OpenLine) × (snapshot ≡ Some (lab, lines))
    × (monitor ≡ going m.workers (joined (bodies_of m.state) lab lines))
IsRestored m snapshot (Err (Refused cause monitor)) =
    (cause ≡ Snapshot) × (snapshot ≡ None)
    × (monitor ≡ going m.workers (joined (bodies_of m.state) m.state.lab m.state.lines))
IsRestored m snapshot (Err Unstored) = ⊥
IsRestored m snapshot (Err Memory) = Unit {0}

-- what comes of a command for the store that was lent the monitor
abbrev pub lent : Running → Result (Unit {0}) (StoreHalt (Unit {0})) → Result Running (StoreHalt Running)
lent monitor (Ok none) = Ok monitor
lent monitor (Err (Refused cause none)) = Err (Refused cause monitor)
lent monitor (Err Unstored) = Err Unstored
lent monitor (Err Memory) = Err Memory

-- What the name keeps was read, and what a monitor makes of it is what is left of the run then; or the line is refused,
-- or it was cut short.
abbrev pub IsFetched :
    Transcript → Held → Further → LinePlace → Outside → Outside → Running → List ℕ →
    Result (Unit {0}) (StoreHalt (Unit {0})) → Type 0
IsFetched all kept further place old mid monitor bytes (Ok none) =
    (restored : Result Running (StoreHalt Running)) → IsRestored monitor (snapshot_of bytes) restored →
    IsStored all kept further place old mid restored
IsFetched all kept further place old mid monitor bytes (Err halt) =
    IsStored all kept further place old mid (lent monitor (Err halt))

-- A command was taken but for a snapshot that it asks for: the run goes on with what is left of it, has ended, or is to
-- take the snapshot back.
abbrev pub IsTried :
    Transcript → Held → Further → Outside → Outside → Running → Result (Option SnapshotLine) Status → Type 0
IsTried all kept further old mid monitor (Ok None) = GoesOn all kept old mid (λ now. further now monitor.state)
IsTried all kept further old mid monitor (Ok (Some line)) =
    (mid.kept ≡ Some kept)
    × ((new : Outside) (stored : Result Running (StoreHalt Running)) →
    IsStored (loading further kept line.name (line_in line.file line.line) monitor.state) kept further
    (line_in line.file line.line) mid new stored →
    IsStored all kept further (line_in line.file line.line) old new stored)
IsTried all kept further old mid monitor (Err status) = Course all kept status old mid

-- a refused monitor can print what is open of its log
abbrev pub IsUnspent : Result Running (StoreHalt Running) → Type 0
IsUnspent (Ok monitor) = Unit {0}
IsUnspent (Err (Refused cause monitor)) = monitor.spent ≡ false
IsUnspent (Err Unstored) = Unit {0}
IsUnspent (Err Memory) = Unit {0}
