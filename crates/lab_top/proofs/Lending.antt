-- What was lent to one call and to another.
use Rattle.std.proofs.Common.{◌≡◌, ◌∙◌, refl}
use Rattle.lab_io.proofs.Frames.{reads_as, reads_none, reads_on, stores_as, stores_none, stores_on}
use Rattle.lab_io.proofs.Frames.{writes_as, writes_none, writes_on}
use Rattle.lab_io.specs.Known.{Rose}
use Rattle.lab_io.specs.declared.files.Files.{Ghosts as FilesGhosts}
use Rattle.lab_io.specs.declared.sink.Sink.{Ghosts as SinkGhosts}
use Rattle.lab_io.specs.declared.store.Store.{Ghosts as StoreGhosts}
use Rattle.lab_top.specs.declared.outside.Outside.{Outside as Lent}
use Rattle.lab_top.specs.declared.status.Status.{Status}
use Rattle.lab_top.specs.declared.status.Status.TheVariants.{Unread, Unwritten, Unstored}
use Rattle.lab_top.specs.Headline.{IsUncut, outside}
use Rattle.lab_top.specs.Inner.Lent.{OnlyUses, told_of}
use Rattle.lab_top.proofs.Headlines.{uncut}

module _ {F K S : Type 0} {files : FilesGhosts F} {out : SinkGhosts K} {store : StoreGhosts S} where
  -- a call has answered, and after it another, by which the whole has ended
  pub uses_on :
      {P Q : Status → Type 0} {old mid new : Lent F K S} → OnlyUses files out store P old mid →
      OnlyUses files out store Q mid new → OnlyUses files out store Q old new
  uses_on first second = record {
    files_same = second.files_same ∙ first.files_same;
    out_same = second.out_same ∙ first.out_same;
    store_same = second.store_same ∙ first.store_same;
    reads = reads_on first.reads second.reads;
    writes = writes_on first.writes second.writes;
    stores = stores_on first.stores second.stores;
  }

  -- the same call, where its answer is told in other words
  pub uses_as :
      {P Q : Status → Type 0} {old new : Lent F K S} → ((status : Status) → Q status → P status) →
      OnlyUses files out store P old new → OnlyUses files out store Q old new
  uses_as told uses = record {
    files_same = uses.files_same;
    out_same = uses.out_same;
    store_same = uses.store_same;
    reads = reads_as (told Unread) uses.reads;
    writes = writes_as (told Unwritten) uses.writes;
    stores = stores_as (told Unstored) uses.stores;
  }

  -- no call, and nothing has failed
  pub uses_none :
      {P : Status → Type 0} {old : Lent F K S} → ((status : Status) → P status → ⊥) →
      OnlyUses files out store P old old
  uses_none none = record {
    files_same = refl;
    out_same = refl;
    store_same = refl;
    reads = reads_none (none Unread);
    writes = writes_none (none Unwritten);
    stores = stores_none (none Unstored);
  }

-- what was lent is told of as the three are that it came from
pub told_there :
    {F K S : Type 0} (files : FilesGhosts F) (out : SinkGhosts K) (store : StoreGhosts S) (lent : Lent F K S)
    {f : F} {k : K} {s : S} → lent.files.now ≡ f → lent.out.now ≡ k → lent.store.now ≡ s →
    told_of files out store lent ≡ outside files out store f k s
told_there files out store lent is_f is_k is_s = rw (is_f, is_k, is_s) refl

-- nothing but want of memory cuts a run short in which none of the three has failed
pub uncut_there :
    {F K S : Type 0} {files : FilesGhosts F} {out : SinkGhosts K} {store : StoreGhosts S} {old new : Lent F K S}
    {f : F} {k : K} {s : S} {status : Status} → OnlyUses files out store (λ other. status ≡ other) old new →
    new.files.now ≡ f → new.out.now ≡ k → new.store.now ≡ s →
    ¬ (Rose (files.faults old.files.now) (files.faults f)) → ¬ (Rose (out.faults old.out.now) (out.faults k)) →
    ¬ (Rose (store.faults old.store.now) (store.faults s)) → IsUncut status
uncut_there {status = status} uses is_f is_k is_s =
    rw (← is_f, ← is_k, ← is_s) (uncut status uses.reads.counted uses.writes.counted uses.stores.counted)
