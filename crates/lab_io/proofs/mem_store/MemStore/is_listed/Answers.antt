-- The list that is searched is the one that contracts see.
use Rattle.lab_io.proofs.Listed.{listed}
use Rattle.lab_io.proofs.mem_store.MemStore.is_listed.Goals as goal

pub returns : goal.returns
returns c = rw (← c.self.view_is, ← c.deref.ensures.value) (listed _ _ _ c.contains.ensures.value)
