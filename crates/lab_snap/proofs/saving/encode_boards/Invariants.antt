use Rattle.lab_snap.specs.Lab.{board_form}
use Rattle.lab_snap.specs.Saved.{saved_board}
use Rattle.lab_snap.proofs.SavedLists.{AreWritten}
use Rattle.lab_snap.proofs.saving.encode_boards.Given as goal

abbrev pub invariant-loop-b : goal.invariant-loop-b
invariant-loop-b g l = record {
  written : AreWritten board_form saved_board l.lab.lab.boards l.b l.initial.out.items l.out.items;
}
