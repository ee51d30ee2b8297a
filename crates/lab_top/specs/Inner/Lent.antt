-- What a run does with the outside that it was lent.
use Rattle.std.specs.Prelude.{◌≡◌}
use Rattle.std.specs.Option.{ForSome}
use Rattle.lab_io.specs.Frame.{OnlyReads, OnlyStores, OnlyWrites}
use Rattle.lab_io.specs.Held.{Held}
use Rattle.lab_io.specs.declared.files.Files.{Ghosts as FilesGhosts}
use Rattle.lab_io.specs.declared.sink.Sink.{Ghosts as SinkGhosts}
use Rattle.lab_io.specs.declared.store.Store.{Ghosts as StoreGhosts}
use Rattle.lab_top.specs.declared.outside.Outside.{Outside as Lent}
use Rattle.lab_top.specs.declared.status.Status.{Status}
use Rattle.lab_top.specs.declared.status.Status.TheVariants.{Unread, Unwritten, Unstored}
use Rattle.lab_top.specs.Headline.{Course, Outside, outside}
use Rattle.lab_top.specs.Transcript.{Transcript}

-- what is told of the outside that was lent
abbrev pub told_of :
    {F K S : Type 0} → FilesGhosts F → SinkGhosts K → StoreGhosts S → Lent F K S → Outside
told_of files out store lent = outside files out store lent.files.now lent.out.now lent.store.now

-- this holds of what the files hold and of what the store keeps, where that is told
abbrev pub ForHeld :
    {F K S : Type 0} → FilesGhosts F → StoreGhosts S → Lent F K S → (Held → Held → Type 0) → Type 0
ForHeld files store lent P =
    ForSome (files.held lent.files.now) (λ held. ForSome (store.kept lent.store.now) (λ kept. P held kept))

-- a run has gone along the transcript that is meant where files hold and the store keeps what they do at first
abbrev pub Goes :
    {F K S : Type 0} → FilesGhosts F → SinkGhosts K → StoreGhosts S → (Held → Held → Transcript) → Status →
    Lent F K S → Lent F K S → Type 0
Goes files out store meant status old new =
    ForHeld files store old (λ held kept.
    Course (meant held kept) kept status (told_of files out store old) (told_of files out store new))

-- What was lent was only read, written and called: what the files hold has stayed, and no fault is forgotten. `Ends`
-- says how the run has ended, if it has. Where that is by a fault of one of the three, it has counted one more.
pub record OnlyUses
    {F K S : Type 0} (files : FilesGhosts F) (out : SinkGhosts K) (store : StoreGhosts S) (Ends : Status → Type 0)
    (old new : Lent F K S) : Type 0 where
  pub files_same : new.files.ghost_name ≡ old.files.ghost_name
  pub out_same : new.out.ghost_name ≡ old.out.ghost_name
  pub store_same : new.store.ghost_name ≡ old.store.ghost_name
  pub reads : OnlyReads files (Ends Unread) old.files.now new.files.now
  pub writes : OnlyWrites out (Ends Unwritten) old.out.now new.out.now
  pub stores : OnlyStores store (Ends Unstored) old.store.now new.store.now
