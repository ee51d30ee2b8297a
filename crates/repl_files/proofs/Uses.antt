-- How a file and a `using` head are loaded.
use Rattle.std.proofs.Common.{◌≡◌, ◌∷◌, ◌++◌, ◌+◌, ◌-◌, ◌<◌, ◌≤◌, ◌⊎◌, ◌∙◌, ℕ, zero, suc, nat_le, true, false, List, []}
use Rattle.std.proofs.Common.{length, Result, Ok, Err, refl, sym, ap, subst, inl, inr, append-nil, length-append, arith}
use Rattle.std.specs.FinMap.{get}
use Rattle.std.proofs.lemmas.Bool.Decides.{nat_tests}
use Rattle.lab_io.specs.Known.{grown}
use Rattle.lab_io.specs.Held.{Held}
use Rattle.repl_read.specs.declared.entry.Entry.{Entry}
use Rattle.repl_files.specs.declared.fault.FileCause.TheVariants.{Depth, Size}
use Rattle.repl_files.specs.declared.fault.FileFault.{FileFault}
use Rattle.repl_files.specs.declared.fault.LoadFault.{LoadFault}
use Rattle.repl_files.specs.declared.fault.LoadFault.TheVariants.{At, TooLarge, Unread, Memory}
use Rattle.repl_files.specs.declared.load.Loaded.{Loaded}
use Rattle.repl_files.specs.Content.{Content, Missing, Large, Faulty, Readable, content_of}
use Rattle.repl_files.specs.Loaded.{IsStopped, IsLoaded, IsCut}
use Rattle.lab_io.specs.Asked.{AskedNames}
use Rattle.repl_files.specs.Loading.{Gives, Use, Loading, Outcome, Joined, Refused, Oversized, Absent}
use Rattle.repl_files.specs.Loading.{in_order, stopped, refused_at, file_read, used}
use Rattle.repl_files.specs.Inner.Course.{Adds, IsCourse, IsFaultAt, IsStoppedAt}
use Rattle.repl_files.proofs.Courses.{course_after}
use Rattle.lab_io.proofs.Asking.{asks_all, asks_one, up_to_more, some_more}
use Rattle.lab_io.proofs.Grown.{grown-nil}

-- a head that is one too many
used-refused : (room : ℕ) (held : Held) (count : ℕ) (at : Use) → (room ≡ 0) ⊎ (64 ≤ count) →
    used room held count at ≡ stopped [] (refused_at at Depth)
unfolding used
used-refused zero held count at more = refl
used-refused (suc room) held count at (inl none) = absurd (omega arith)
used-refused (suc room) held count at (inr many) =
    let much : nat_le 64 count ≡ true = grind (arith, nat_tests) in rw much refl

-- a head whose file is read
used-read : (room : ℕ) (held : Held) (count : ℕ) (at : Use) → 0 < room → count < 64 →
    used room held count at
    ≡ file_read (used (room - 1) held) (refused_at at Size) at.name count (content_of (get held at.name))
unfolding used
used-read zero held count at some few = absurd (omega arith)
used-read (suc room) held count at some few =
    let less : suc room - 1 ≡ room = omega arith in
    let fits : nat_le 64 count ≡ false = grind (arith, nat_tests) in
    rw (less, fits) refl

-- the file itself is the first that is read
file_names : (gives : Gives) (large : Outcome) (name : List ℕ) (number : ℕ) (content : Content) →
    (more : List (List ℕ)) × ((file_read gives large name number content).names ≡ (name ∷ []) ++ more)
file_names gives large name number Missing = ([], refl)
file_names gives large name number Large = ([], refl)
file_names gives large name number (Faulty line cause) = ([], refl)
file_names gives large name number (Readable entries) = ((in_order gives name number (number + 1) entries).names, refl)

-- a loading was refused by this fault, which was told, or memory ran out
refused_told : (names : List (List ℕ)) (fault : FileFault) (told : LoadFault) (log log' : AskedNames) →
    log' ≡ grown log names → IsFaultAt fault told → IsStopped (stopped names (Refused fault)) told log log'
refused_told names fault (At told) log log' asked is = (ap Refused (sym is), asked)
refused_told names fault TooLarge log log' asked is = absurd is
refused_told names fault Unread log log' asked is = absurd is
refused_told names fault Memory log log' asked is = asks_all names log log' asked

module _ (gives : Gives) (large : Outcome) (name : List ℕ) where
  -- a file was stopped or cut short at its read
  pub file_stopped : (number : ℕ) (content : Content) (fault : LoadFault) (log log' : AskedNames) →
      IsStoppedAt content name fault log log' → IsStopped (file_read gives large name number content) fault log log'
  file_stopped number content (At fault) log log' is =
      rw is.0 (ap (λ file. Refused (record { file = file; line = fault.line; cause = fault.cause })) (sym is.1), is.2)
  file_stopped number content TooLarge log log' is = absurd is
  file_stopped number content Unread log log' asked =
      let more = file_names gives large name number content in
      up_to_more (name ∷ []) more.0 _ log log' more.1
      (asks_one name log log' asked)
  file_stopped number content Memory log log' asks =
      let more = file_names gives large name number content in some_more (name ∷ []) more.0 _ log log' more.1 asks

  -- a file was read, and its entries went by their course
  pub file_goes : (number : ℕ) (content : Content) (entries : List Entry) (result : Result (Unit {0}) LoadFault)
      (old mid new : Loaded) (log between log' : AskedNames) →
      content ≡ Readable entries → number ≡ length old.names.items → mid.names.items ≡ old.names.items ++ name ∷ [] →
      mid.entries.items ≡ old.entries.items → between ≡ grown log (name ∷ []) →
      IsCourse (in_order gives name number (length mid.names.items) entries) result mid new between log' →
      IsCourse (file_read gives large name number content) result old new log log'
  file_goes number content entries result old mid new log between log' is numbered noted same asked course =
      let from : ℕ → Type 0 = λ n. IsCourse (in_order gives name number n entries) result mid new between log' in
      let counted : length mid.names.items ≡ number + 1 =
      ap length noted ∙ length-append old.names.items (name ∷ []) ∙ ap (λ n. n + 1) (sym numbered) in
      rw is
      (course_after (stopped (name ∷ []) (Joined [])) (in_order gives name number (number + 1) entries) result
      old mid new log between log'
      (record {
        added = [];
        outcome = refl;
        entries = rw same (sym (append-nil old.entries.items));
        names = noted;
        asked = asked;
      })
      (subst from counted course))

-- the file of the command is too large
pub oversized : (gives : Gives) (name : List ℕ) (number : ℕ) (content : Content) (log log' : AskedNames) →
    content ≡ Large → log' ≡ grown log (name ∷ []) →
    IsStopped (file_read gives Oversized name number content) TooLarge log log'
oversized gives name number content log log' is asked = rw is (refl, asked)

-- a head that is one too many was told
pub use_refused : (room : ℕ) (held : Held) (count : ℕ) (at : Use) (told : LoadFault) (log : AskedNames) →
    (room ≡ 0) ⊎ (64 ≤ count) → IsFaultAt (record { file = at.file; line = at.line; cause = Depth }) told →
    IsStopped (used room held count at) told log log
use_refused room held count at told log more is =
    rw (used-refused room held count at more) (refused_told [] _ told log log (sym (grown-nil log)) is)

-- a head whose file is too large was told
pub use_large : (room : ℕ) (held : Held) (count : ℕ) (at : Use) (told : LoadFault) (log log' : AskedNames) →
    0 < room → count < 64 → content_of (get held at.name) ≡ Large → log' ≡ grown log (at.name ∷ []) →
    IsFaultAt (record { file = at.file; line = at.line; cause = Size }) told →
    IsStopped (used room held count at) told log log'
use_large room held count at told log log' some few is asked fault =
    rw (used-read room held count at some few, is)
    (refused_told (at.name ∷ []) (record { file = at.file; line = at.line; cause = Size }) told log log' asked fault)

-- a head went by the course of its file, which has the next number
pub use_goes :
    (room : ℕ) (held : Held) (at : Use) (number : ℕ) (result : Result (Unit {0}) LoadFault) (old new : Loaded)
    (log log' : AskedNames) → 0 < room → length old.names.items < 64 → number ≡ length old.names.items →
    IsCourse (file_read (used (room - 1) held) (refused_at at Size) at.name number (content_of (get held at.name)))
    result old new log log' →
    IsCourse (used room held (length old.names.items) at) result old new log log'
use_goes room held at number result old new log log' some few numbered course =
    let of : Loading → Type 0 = λ loading. IsCourse loading result old new log log' in
    let read : ℕ → Loading =
    λ n. file_read (used (room - 1) held) (refused_at at Size) at.name n (content_of (get held at.name)) in
    subst of (ap read numbered ∙ sym (used-read room held (length old.names.items) at some few)) course

-- the file of the command was joined whole
pub loaded_whole : (loading : Loading) (old new : Loaded) (log log' : AskedNames) →
    old.names.items ≡ [] → old.entries.items ≡ [] → Adds loading old new log log' → IsLoaded loading (Ok new) log log'
loaded_whole loading old new log log' unread none adds =
    (adds.outcome ∙ ap Joined (sym (rw none at adds.entries)), rw unread at adds.names, adds.asked)

-- a loading that is absent was cut short
pub cut_of : (loading : Loading) (result : Result Loaded LoadFault) (log log' : AskedNames) →
    loading.outcome ≡ Absent → IsLoaded loading result log log' → IsCut result
cut_of loading (Ok all) log log' absent is = let so = is.0 in cc
cut_of loading (Err (At fault)) log log' absent is = let so = is.0 in cc
cut_of loading (Err TooLarge) log log' absent is = let so = is.0 in cc
cut_of loading (Err Unread) log log' absent is = tt
cut_of loading (Err Memory) log log' absent is = tt
