-- What the whole program promises of any run.
use Rattle.std.specs.Prelude.{◌≡◌, ℕ, ◌≤◌, ◌⊎◌, List, [], ◌∷◌, ◌++◌, length, map, fold, All, Option, None, Some}
use Rattle.std.specs.Prelude.{Result, Ok, Err, IfSome, IsSome}
use Rattle.std.specs.FinMap.{insert}
use Rattle.std.specs.Option.{option_map_or}
use Rattle.lab_io.specs.Asked.{AskedNames}
use Rattle.lab_io.specs.Known.{grown}
use Rattle.lab_io.specs.Held.{Held}
use Rattle.lab_io.specs.Store.{StoreUse}
use Rattle.lab_io.specs.declared.files.Files.{Ghosts as FilesGhosts}
use Rattle.lab_io.specs.declared.sink.Sink.{Ghosts as SinkGhosts}
use Rattle.lab_io.specs.declared.store.Store.{Ghosts as StoreGhosts}
use Rattle.lab_num.specs.declared.number.NoMemory.{NoMemory}
use Rattle.lab_io.specs.declared.sink.WriteFault.{WriteFault}
use Rattle.lab_io.specs.declared.sink.WriteFault.TheVariants as write_fault
use Rattle.lab_top.specs.declared.status.Status.{Status}
use Rattle.lab_top.specs.declared.status.Status.TheVariants.{Done, Memory, Usage, Script, Unread, Unwritten, Unstored}
use Rattle.lab_arguments.specs.Usage.{usage_line}
use Rattle.lab_top.specs.Request.{Request, Refused, Run, Gen}
use Rattle.lab_top.specs.Transcript.{Outcome, Read, Use, Transcript}
use Rattle.lab_top.specs.Transcript as run

-- the number with which the program ends
abbrev pub number_of : Status → ℕ
number_of Done = 0
number_of Memory = 1
number_of (Usage cause) = 2
number_of (Script fault) = 3
number_of Unread = 4
number_of Unwritten = 5
number_of Unstored = 6

-- the exit code of the program, which is not run where no memory is found for its words or its devices
abbrev pub exit_number : Result Status NoMemory → ℕ
exit_number (Ok status) = number_of status
exit_number (Err none) = 1

-- the outcome of a run that nothing has cut short
abbrev pub final : Status → Option Outcome
final Done = Some run.Done
final Memory = None
final (Usage cause) = Some (run.Usage cause)
final (Script fault) = Some (run.Script fault)
final Unread = None
final Unwritten = None
final Unstored = None

-- the status of a run whose output has refused a piece
abbrev pub refusal : WriteFault → Status
refusal write_fault.Unwritten = Unwritten
refusal write_fault.Memory = Memory

-- What is told of the outside of a run: what was written, the names that were asked for, the calls on the store, and
-- what it keeps.
pub record Outside : Type 0 where
  pub written : Option (List ℕ)
  pub asked : AskedNames
  pub used : Option (List StoreUse)
  pub kept : Option Held

abbrev pub outside : {F K S : Type 0} → FilesGhosts F → SinkGhosts K → StoreGhosts S → F → K → S → Outside
outside files out store f k s =
    record { written = out.written k; asked = files.asked f; used = store.uses s; kept = store.kept s }

-- a run that was not cut short ends as its transcript does, has written all of it, and has kept what it keeps
pub record EndsAs (all : Transcript) (outcome : Outcome) (old new : Outside) : Type 0 where
  pub ended : all.outcome ≡ outcome
  pub written : new.written ≡ grown old.written all.bytes
  pub kept : new.kept ≡ Some all.kept

abbrev pub IsWhole : Transcript → Status → Outside → Outside → Type 0
IsWhole all status old new = IfSome (final status) (λ outcome. EndsAs all outcome old new)

abbrev pub names_read : List Read → List (List ℕ)
names_read reads = map (λ read. read.name) reads

-- the last name that was asked for is that of a read that comes after so many bytes
pub record ReadsLast (reads : List Read) (bytes : ℕ) (log log' : AskedNames) : Type 0 where
  pub earlier : List Read
  pub last : Read
  pub coming : List Read
  pub all : reads ≡ earlier ++ last ∷ coming
  pub asked : log' ≡ grown log (names_read (earlier ++ last ∷ []))
  pub before : last.before ≡ bytes

abbrev pub calls : List Use → List StoreUse
calls uses = map (λ made. made.call) uses

-- what is kept after calls that were done: of each put its bytes, under its name
abbrev pub kept_by : Held → List StoreUse → Held
kept_by kept used =
    fold (λ kept call. option_map_or (λ bytes. insert kept call.name bytes) call.put kept) kept used

-- the one call that has failed comes after so many bytes
pub record FailsAt (failed : List Use) (bytes : ℕ) : Type 0 where
  pub one : Use
  pub alone : failed ≡ one ∷ []
  pub before : one.before ≡ bytes

-- one call on the store has failed where a run is cut short by it, and else none
abbrev pub HasFailed : Status → List Use → ℕ → Type 0
HasFailed Done failed bytes = failed ≡ []
HasFailed Memory failed bytes = failed ≡ []
HasFailed (Usage cause) failed bytes = failed ≡ []
HasFailed (Script fault) failed bytes = failed ≡ []
HasFailed Unread failed bytes = failed ≡ []
HasFailed Unwritten failed bytes = failed ≡ []
HasFailed Unstored failed bytes = FailsAt failed bytes

-- What was written is what the transcript begins with, and so are the names that were asked for and the calls on the
-- store; what is kept is what the calls that were done have kept. Where a read or a call on the store failed, all was
-- written that comes before it.
pub record WritesPart (all : Transcript) (kept : Held) (status : Status) (old new : Outside) : Type 0 where
  pub bytes : List ℕ
  pub unwritten : List ℕ
  pub all_bytes : all.bytes ≡ bytes ++ unwritten
  pub written : new.written ≡ grown old.written bytes
  pub done : List Use
  pub failed : List Use
  pub coming : List Use
  pub all_uses : all.uses ≡ done ++ failed ++ coming
  pub used : new.used ≡ grown old.used (calls (done ++ failed))
  pub stored : new.kept ≡ Some (kept_by kept (calls done))
  pub unstored : HasFailed status failed (length bytes)
  pub unread : status ≡ Unread → ReadsLast all.reads (length bytes) old.asked new.asked

-- the names that were asked for are those of the first reads of the transcript
pub record AsksPart (all : Transcript) (log log' : AskedNames) : Type 0 where
  pub passed : List Read
  pub coming : List Read
  pub all_reads : all.reads ≡ passed ++ coming
  pub asked : log' ≡ grown log (names_read passed)

-- the last of these reads comes after so many bytes
pub record IsLastAt (reads : List Read) (bytes : ℕ) : Type 0 where
  pub earlier : List Read
  pub last : Read
  pub all : reads ≡ earlier ++ last ∷ []
  pub before : last.before ≡ bytes

-- So many bytes part the reads and the calls on the store that were made from those that are to come: none that was
-- made comes after more bytes, and none that is to come after fewer.
pub record PartsAt (bytes : ℕ) (passed coming : List Read) (made ahead : List Use) : Type 0 where
  pub read : All (λ read. read.before ≤ bytes) passed
  pub unread : All (λ read. bytes ≤ read.before) coming
  pub called : All (λ call. call.before ≤ bytes) made
  pub uncalled : All (λ call. bytes ≤ call.before) ahead

-- A run that begins where this is kept has gone by this transcript up to where it was cut short, if it was: what it has
-- written and asked for, and its calls on the store, are what the transcript begins with, up to one place of it. A run
-- that was not cut short has made all of it.
pub record Course (all : Transcript) (kept : Held) (status : Status) (old new : Outside) : Type 0 where
  pub bytes : List ℕ
  pub unwritten : List ℕ
  pub passed : List Read
  pub coming : List Read
  pub done : List Use
  pub failed : List Use
  pub ahead : List Use
  pub all_bytes : all.bytes ≡ bytes ++ unwritten
  pub all_reads : all.reads ≡ passed ++ coming
  pub all_uses : all.uses ≡ done ++ failed ++ ahead
  pub written : new.written ≡ grown old.written bytes
  pub asked : new.asked ≡ grown old.asked (names_read passed)
  pub used : new.used ≡ grown old.used (calls (done ++ failed))
  pub stored : new.kept ≡ Some (kept_by kept (calls done))
  pub place : PartsAt (length bytes) passed coming (done ++ failed) ahead
  pub ended : IfSome (final status) (λ outcome.
      (all.outcome ≡ outcome) × (unwritten ≡ []) × (all.kept ≡ kept_by kept (calls done)))
  pub finished : IfSome (final status) (λ outcome. (coming ≡ []) × (ahead ≡ []))
  pub unread : status ≡ Unread → IsLastAt passed (length bytes)
  pub unstored : HasFailed status failed (length bytes)

-- a run was not cut short, but by want of memory
abbrev pub IsUncut : Status → Type 0
IsUncut status = IsSome (final status) ⊎ (status ≡ Memory)

-- a run is not refused for its words
abbrev pub IsNoUsage : Status → Type 0
IsNoUsage Done = Unit {0}
IsNoUsage Memory = Unit {0}
IsNoUsage (Usage cause) = ⊥
IsNoUsage (Script fault) = Unit {0}
IsNoUsage Unread = Unit {0}
IsNoUsage Unwritten = Unit {0}
IsNoUsage Unstored = Unit {0}

-- words that are refused end in the refusal, if nothing cuts that short, and others do not
abbrev pub IsUsageBy : Request → Status → Type 0
IsUsageBy (Refused cause) status = IfSome (final status) (λ outcome. outcome ≡ run.Usage cause)
IsUsageBy (Run script setting) status = IsNoUsage status
IsUsageBy (Gen seed boards) status = IsNoUsage status

-- the usage line was written, or its beginning where that was cut short; no name was asked for, and the store was left
-- alone
pub record WritesUsage (status : Status) (old new : Outside) : Type 0 where
  pub bytes : List ℕ
  pub unwritten : List ℕ
  pub all_bytes : usage_line ≡ bytes ++ unwritten
  pub written : new.written ≡ grown old.written bytes
  pub whole : IfSome (final status) (λ outcome. unwritten ≡ [])
  pub asked : new.asked ≡ old.asked
  pub used : new.used ≡ old.used
  pub kept : new.kept ≡ old.kept

-- this holds where words are refused
abbrev pub OnRefused : Request → Type 0 → Type 0
OnRefused (Refused cause) P = P
OnRefused (Run script setting) P = Unit {0}
OnRefused (Gen seed boards) P = Unit {0}
