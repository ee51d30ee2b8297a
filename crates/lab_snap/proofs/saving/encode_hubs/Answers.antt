use Rattle.lab_snap.proofs.SavedLists.{one_more_written}
use Rattle.lab_snap.proofs.saving.encode_hubs.Goals as goal

pub loop-n-preserved : goal.loop-n-preserved
loop-n-preserved g c = record {
  written = one_more_written _ _ _ _ _ _ _ (rw c.hubs-n-end.ensures at c.loop-n-test.true) c.loop-n.invariant.written
      c.in_ok-encode_hub.ensures.spelled c.in_ok-encode_hub.ensures.fits;
}
