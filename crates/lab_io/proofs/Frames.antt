-- One call on files, on an output or on a store, and one after another.
use Rattle.std.proofs.Common.{◌∙◌, ℕ, ◌≤◌, refl, arith}
use Rattle.lab_io.specs.Known.{Rose}
use Rattle.lab_io.specs.Frame.{OnlyReads, OnlyStores, OnlyWrites}
use Rattle.lab_io.specs.declared.files.Files.{Ghosts}
use Rattle.lab_io.specs.declared.sink.Sink.{Ghosts as SinkGhosts}
use Rattle.lab_io.specs.declared.store.Store.{Ghosts as StoreGhosts}

-- a rise that began later is one from before
pub rose_from : (before between now : ℕ) → before ≤ between → Rose between now → Rose before now
rose_from before between now less rose = omega (arith, less, rose)

same_count : (n : ℕ) → n ≤ n
same_count n = omega arith

in_order : (a b c : ℕ) → a ≤ b → b ≤ c → a ≤ c
in_order a b c first second = omega (arith, first, second)

module _ {F : Type 0} {files : Ghosts F} {P Q : Type 0} where
  -- a call has answered, and after it another, by which the whole has failed
  pub reads_on : {old mid new : F} → OnlyReads files P old mid → OnlyReads files Q mid new → OnlyReads files Q old new
  reads_on first second = record {
    held = second.held ∙ first.held;
    faults = in_order _ _ _ first.faults second.faults;
    counted = λ failed. rose_from _ _ _ first.faults (second.counted failed);
  }

  -- the same call, where its answer is told in other words
  pub reads_as : {old new : F} → (Q → P) → OnlyReads files P old new → OnlyReads files Q old new
  reads_as told reads = record {
    held = reads.held;
    faults = reads.faults;
    counted = λ failed. reads.counted (told failed);
  }

module _ {F : Type 0} {files : Ghosts F} {P : Type 0} where
  -- no call, and no read has failed
  pub reads_none : {old : F} → (P → ⊥) → OnlyReads files P old old
  reads_none {old} none = record {
    held = refl;
    faults = same_count (files.faults old);
    counted = λ failed. absurd (none failed);
  }

module _ {K : Type 0} {out : SinkGhosts K} {P Q : Type 0} where
  -- a call has answered, and after it another, by which the whole has failed
  pub writes_on : {old mid new : K} → OnlyWrites out P old mid → OnlyWrites out Q mid new → OnlyWrites out Q old new
  writes_on first second = record {
    faults = in_order _ _ _ first.faults second.faults;
    counted = λ failed. rose_from _ _ _ first.faults (second.counted failed);
  }

  -- the same call, where its answer is told in other words
  pub writes_as : {old new : K} → (Q → P) → OnlyWrites out P old new → OnlyWrites out Q old new
  writes_as told writes = record {
    faults = writes.faults;
    counted = λ failed. writes.counted (told failed);
  }

module _ {K : Type 0} {out : SinkGhosts K} {P : Type 0} where
  -- no call, and no write has failed
  pub writes_none : {old : K} → (P → ⊥) → OnlyWrites out P old old
  writes_none {old} none = record {
    faults = same_count (out.faults old);
    counted = λ failed. absurd (none failed);
  }

module _ {S : Type 0} {store : StoreGhosts S} {P Q : Type 0} where
  -- a call has answered, and after it another, by which the whole has failed
  pub stores_on :
      {old mid new : S} → OnlyStores store P old mid → OnlyStores store Q mid new → OnlyStores store Q old new
  stores_on first second = record {
    faults = in_order _ _ _ first.faults second.faults;
    counted = λ failed. rose_from _ _ _ first.faults (second.counted failed);
  }

  -- the same call, where its answer is told in other words
  pub stores_as : {old new : S} → (Q → P) → OnlyStores store P old new → OnlyStores store Q old new
  stores_as told stores = record {
    faults = stores.faults;
    counted = λ failed. stores.counted (told failed);
  }

module _ {S : Type 0} {store : StoreGhosts S} {P : Type 0} where
  -- no call, and none has failed
  pub stores_none : {old : S} → (P → ⊥) → OnlyStores store P old old
  stores_none {old} none = record {
    faults = same_count (store.faults old);
    counted = λ failed. absurd (none failed);
  }
