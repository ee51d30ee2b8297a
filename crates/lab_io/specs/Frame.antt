-- What a call has done to the files, the output and the store that it was lent. A function says it in one clause for
-- each, where `F: Files`, `K: Sink`, `S: Store`, and P, Q and R are when a read, a write, or a call on the store, has
-- failed:
--     ensures files { OnlyReads F.Files P files.old files.new }
--     ensures output { OnlyWrites K.Sink Q out.old out.new }
--     ensures store { OnlyStores S.Store R store.old store.new }
-- A proof joins such facts by the lemmas of `Rattle.lab_io.proofs.Frames`, where the automatic proof does not:
-- `reads_on`, `writes_on` and `stores_on` for one call after another, `reads_as`, `writes_as` and `stores_as` where P,
-- Q or R says the same in other words, `reads_none`, `writes_none` and `stores_none` for no call.
use Rattle.std.specs.Prelude.{◌≡◌, ◌≤◌}
use Rattle.lab_io.specs.Known.{Rose}
use Rattle.lab_io.specs.declared.files.Files.{Ghosts}
use Rattle.lab_io.specs.declared.sink.Sink.{Ghosts as SinkGhosts}
use Rattle.lab_io.specs.declared.store.Store.{Ghosts as StoreGhosts}

-- What files hold has stayed, and no fault of theirs is forgotten. Where a read has failed, one more was counted.
pub record OnlyReads {F : Type 0} (files : Ghosts F) (failed : Type 0) (old new : F) : Type 0 where
  pub held : files.held new ≡ files.held old
  pub faults : files.faults old ≤ files.faults new
  pub counted : failed → Rose (files.faults old) (files.faults new)

-- No fault of an output is forgotten. Where a write has failed, one more was counted.
pub record OnlyWrites {K : Type 0} (out : SinkGhosts K) (failed : Type 0) (old new : K) : Type 0 where
  pub faults : out.faults old ≤ out.faults new
  pub counted : failed → Rose (out.faults old) (out.faults new)

-- No fault of a store is forgotten. Where a call has failed, one more was counted.
pub record OnlyStores {S : Type 0} (store : StoreGhosts S) (failed : Type 0) (old new : S) : Type 0 where
  pub faults : store.faults old ≤ store.faults new
  pub counted : failed → Rose (store.faults old) (store.faults new)
