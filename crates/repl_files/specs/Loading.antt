-- A platform file with all that its `using` heads name: which names are read, in order, and what comes of it.
use Rattle.std.specs.Prelude.{ℕ, zero, suc, ◌+◌, ◌-◌, nat_le, if◌then◌else◌, List, [], ◌∷◌, ◌++◌, length, Option, None}
use Rattle.std.specs.Prelude.{Some}
use Rattle.std.specs.FinMap.{get}
use Rattle.lab_io.specs.Held.{Held}
use Rattle.lab_num.specs.Depth.{depth_limit}
use Rattle.repl_read.specs.declared.entry.Entry.{Entry}
use Rattle.repl_read.specs.declared.entry.Head.{Head}
use Rattle.repl_read.specs.declared.entry.Head.TheVariants.{Using, Typed, Update}
use Rattle.repl_files.specs.declared.fault.FileCause.{FileCause}
use Rattle.repl_files.specs.declared.fault.FileCause.TheVariants.{Depth, Size}
use Rattle.repl_files.specs.declared.fault.FileFault.{FileFault}
use Rattle.repl_files.specs.Content.{Content, Missing, Large, Faulty, Readable, content_of}

-- What comes of a loading that nothing cuts short. It is oversized where the file that the command names is too large,
-- and absent where a name holds nothing.
pub data Outcome : Type 0 where
  Joined : List Entry → Outcome
  Refused : FileFault → Outcome
  Oversized : Outcome
  Absent : Outcome

-- the names that are read, in order, and what comes of it
pub record Loading : Type 0 where
  pub names : List (List ℕ)
  pub outcome : Outcome

-- a `using` head: the file and the line where it stands, and the file that it names
pub record Use : Type 0 where
  pub file : List ℕ
  pub line : ℕ
  pub name : List ℕ

-- what comes of a `using` head, where so many files of the command were read before it
abbrev pub Gives : Type 0
Gives = ℕ → Use → Loading

abbrev pub stopped : List (List ℕ) → Outcome → Loading
stopped names outcome = record { names = names; outcome = outcome }

-- the loading is refused at a head
abbrev pub refused_at : Use → FileCause → Outcome
refused_at at cause = Refused (record { file = at.file; line = at.line; cause = cause })

-- entries stand in front of those that are still to come
abbrev pub joined : List Entry → Outcome → Outcome
joined entries (Joined more) = Joined (entries ++ more)
joined entries (Refused fault) = Refused fault
joined entries Oversized = Oversized
joined entries Absent = Absent

-- These names were read and this came of it. If that stops nothing, the rest comes after it.
abbrev pub go_on : List (List ℕ) → Outcome → Loading → Loading
go_on names (Joined entries) rest = record { names = names ++ rest.names; outcome = joined entries rest.outcome }
go_on names (Refused fault) rest = stopped names (Refused fault)
go_on names Oversized rest = stopped names Oversized
go_on names Absent rest = stopped names Absent

-- the file that a head names, if it is a `using` head
abbrev pub used_file : Head → Option (List ℕ)
used_file (Using name) = Some name
used_file (Typed name kind place) = None
used_file (Update name) = None

-- an entry is kept with the number of its file, and a `using` head gives way to the entries of the file that it names
abbrev pub one_by : Gives → List ℕ → ℕ → ℕ → Entry → Option (List ℕ) → Loading
one_by gives file number count entry None = stopped [] (Joined (record entry { file = number } ∷ []))
one_by gives file number count entry (Some name) = gives count (record { file = file; line = entry.line; name = name })

-- what comes of one entry of a file, where so many files were read before it
abbrev pub one : Gives → List ℕ → ℕ → ℕ → Entry → Loading
one gives file number count entry = one_by gives file number count entry (used_file entry.head)

-- what comes of the entries of a file in their order, where so many files were read before the first of them
abbrev pub in_order : Gives → List ℕ → ℕ → ℕ → List Entry → Loading
in_order gives file number count [] = stopped [] (Joined [])
in_order gives file number count (entry ∷ entries) =
    let first = one gives file number count entry in
    go_on first.names first.outcome (in_order gives file number (count + length first.names) entries)

-- what comes of a file with this number: its own faults come before all that its heads name
abbrev pub file_read : Gives → Outcome → List ℕ → ℕ → Content → Loading
file_read gives large name number Missing = stopped (name ∷ []) Absent
file_read gives large name number Large = stopped (name ∷ []) large
file_read gives large name number (Faulty line cause) =
    stopped (name ∷ []) (Refused (record { file = name; line = line; cause = cause }))
file_read gives large name number (Readable entries) =
    go_on (name ∷ []) (Joined []) (in_order gives name number (number + 1) entries)

-- What comes of a `using` head where so many bodies may still be opened. Its file is one of them while it is loaded.
unfoldable pub used : ℕ → Held → Gives
used zero held count at = stopped [] (refused_at at Depth)
used (suc room) held count at =
    if nat_le 64 count then stopped [] (refused_at at Depth)
    else file_read (used room held) (refused_at at Size) at.name count (content_of (get held at.name))

-- what comes of the file that a command names, where so many bodies may still be opened. It opens none itself.
abbrev pub loaded : Held → ℕ → List ℕ → Loading
loaded held room name = file_read (used room held) Oversized name 0 (content_of (get held name))

-- what comes of it while so many bodies are open
abbrev pub load : Held → ℕ → List ℕ → Loading
load held bodies name = loaded held (depth_limit - bodies) name
