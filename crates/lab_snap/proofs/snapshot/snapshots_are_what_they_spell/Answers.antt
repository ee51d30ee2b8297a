use Rattle.lab_snap.proofs.SnapshotLemmas.{found, only}
use Rattle.lab_snap.proofs.snapshot.snapshots_are_what_they_spell.Goals as goal

pub returns : goal.returns
returns c = record { found = found; only = only c.saving_agrees.ensures.loaded }
