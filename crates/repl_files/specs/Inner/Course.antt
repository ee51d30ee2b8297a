-- How far a loading has gone along its definition.
use Rattle.std.specs.Prelude.{◌≡◌, ℕ, IsTrue, List, [], ◌∷◌, ◌++◌, Result, Ok, Err}
use Rattle.std.specs.List.{list_all}
use Rattle.lab_io.specs.Known.{grown}
use Rattle.repl_read.specs.declared.entry.Entry.{Entry}
use Rattle.repl_read.specs.Entries.{is_entry}
use Rattle.repl_files.specs.declared.content.Opened.{Opened}
use Rattle.repl_files.specs.declared.content.Opened.TheVariants as opened_by
use Rattle.repl_files.specs.declared.fault.FileFault.{FileFault}
use Rattle.repl_files.specs.declared.fault.LoadFault.{LoadFault}
use Rattle.repl_files.specs.declared.fault.LoadFault.TheVariants.{At, TooLarge, Unread, Memory}
use Rattle.repl_files.specs.declared.load.Loaded.{Loaded}
use Rattle.lab_io.specs.Asked.{AskedNames, AsksSome}
use Rattle.repl_files.specs.Content.{Content, Large, Faulty, Readable}
use Rattle.repl_files.specs.Loaded.{IsStopped}
use Rattle.repl_files.specs.Loading.{Joined, Loading}

-- this fault was told, or memory ran out
abbrev pub IsFaultAt : FileFault → LoadFault → Type 0
IsFaultAt fault (At told) = told ≡ fault
IsFaultAt fault TooLarge = ⊥
IsFaultAt fault Unread = ⊥
IsFaultAt fault Memory = Unit {0}

-- a file of this name is faulty as was told, or memory ran out
abbrev pub IsFaulty : Content → List ℕ → LoadFault → Type 0
IsFaulty content name (At fault) = (content ≡ Faulty fault.line fault.cause) × (fault.file ≡ name)
IsFaulty content name TooLarge = ⊥
IsFaulty content name Unread = ⊥
IsFaulty content name Memory = Unit {0}

-- a file of this name is what was told of it, or memory ran out
abbrev pub IsContent : Content → List ℕ → Opened → Type 0
IsContent content name (opened_by.Entries entries) = content ≡ Readable entries.items
IsContent content name opened_by.TooLarge = ⊥
IsContent content name (opened_by.Stopped fault) = IsFaulty content name fault

-- a file was read and is faulty as was told, or the read was cut short
abbrev pub IsStoppedAt : Content → List ℕ → LoadFault → AskedNames → AskedNames → Type 0
IsStoppedAt content name (At fault) log log' =
    (content ≡ Faulty fault.line fault.cause) × (fault.file ≡ name) × (log' ≡ grown log (name ∷ []))
IsStoppedAt content name TooLarge log log' = ⊥
IsStoppedAt content name Unread log log' = log' ≡ grown log (name ∷ [])
IsStoppedAt content name Memory log log' = AsksSome (name ∷ []) log log'

-- a file was read as what it is, or the read was cut short
abbrev pub IsOpened : Content → List ℕ → Opened → AskedNames → AskedNames → Type 0
IsOpened content name (opened_by.Entries entries) log log' =
    (content ≡ Readable entries.items) × (log' ≡ grown log (name ∷ []))
IsOpened content name opened_by.TooLarge log log' = (content ≡ Large) × (log' ≡ grown log (name ∷ []))
IsOpened content name (opened_by.Stopped fault) log log' = IsStoppedAt content name fault log log'

-- the entries that a file was opened as have their form
abbrev pub AreRead : Opened → Type 0
AreRead (opened_by.Entries entries) = IsTrue (list_all is_entry entries.items)
AreRead opened_by.TooLarge = Unit {0}
AreRead (opened_by.Stopped fault) = Unit {0}

-- the entries of a loading have been joined to those before
pub record Adds (loading : Loading) (old new : Loaded) (log log' : AskedNames) : Type 0 where
  pub added : List Entry
  pub outcome : loading.outcome ≡ Joined added
  pub entries : new.entries.items ≡ old.entries.items ++ added
  pub names : new.names.items ≡ old.names.items ++ loading.names
  pub asked : log' ≡ grown log loading.names

-- a loading has gone on as it says, up to where it was cut short, if it was
abbrev pub IsCourse : Loading → Result (Unit {0}) LoadFault → Loaded → Loaded → AskedNames → AskedNames → Type 0
IsCourse loading (Ok done) old new log log' = Adds loading old new log log'
IsCourse loading (Err fault) old new log log' = IsStopped loading fault log log'
