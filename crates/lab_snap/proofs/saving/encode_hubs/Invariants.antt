use Rattle.lab_snap.specs.Hub.{hub_form}
use Rattle.lab_snap.specs.Saved.{saved_hub}
use Rattle.lab_snap.proofs.SavedLists.{AreWritten}
use Rattle.lab_snap.proofs.saving.encode_hubs.Given as goal

abbrev pub invariant-loop-n : goal.invariant-loop-n
invariant-loop-n g l = record {
  written : AreWritten hub_form saved_hub l.lab.lab.hubs l.n l.initial.out.items l.out.items;
}
