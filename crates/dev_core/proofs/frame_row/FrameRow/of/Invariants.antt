use Rattle.std.proofs.Common.{◌≡◌, take}
use Rattle.dev_core.proofs.frame_row.FrameRow.of.Given as goal

abbrev pub invariant-loop-frame : goal.invariant-loop-frame
invariant-loop-frame l = l.row ≡ take l.frame-index l.frames
