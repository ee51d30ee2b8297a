use Rattle.lab_snap.proofs.SavedLists.{one_more_written}
use Rattle.lab_snap.proofs.saving.encode_boards.Goals as goal

pub loop-b-preserved : goal.loop-b-preserved
loop-b-preserved g c = record {
  written = one_more_written _ _ _ _ _ _ _ (rw c.boards-b-end.ensures at c.loop-b-test.true) c.loop-b.invariant.written
      c.in_ok-encode_board.ensures.spelled c.in_ok-encode_board.ensures.fits;
}
