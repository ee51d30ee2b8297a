-- A row of frames inside: thirty-two places, of which the first `count` are in use and the others have a frame with
-- identifier 0 and no data.
use Rattle.std.specs.Prelude.{◌≡◌, ◌-◌, ◌≤◌, List, [], ◌++◌, length, take, drop, replicate, refl}
use Rattle.std.proofs.Common.{arith}
use Rattle.std.proofs.lemmas.List.{take-append-drop, length-take-le}
use Rattle.dev_core.specs.declared.frame_row.FrameRow.TheInside.{Inside}
use Rattle.dev_core.specs.Frame.{FrameData, data_frame}

-- the frame in each place that is not in use
abbrev pub no_frame : FrameData
no_frame = data_frame 0 []

-- the frames of a row
abbrev pub frames_of : Inside → List FrameData
frames_of row = take row.count row.frames

-- the row of these frames
abbrev pub row_of : List FrameData → Inside
row_of frames = record { frames = frames ++ replicate (32 - length frames) no_frame; count = length frames }

pub record IsRow (row : Inside) : Type 0 where
  pub count : row.count ≤ 32
  pub size : length row.frames ≡ 32
  pub rest : drop row.count row.frames ≡ replicate (32 - row.count) no_frame

-- a row is the row of its frames
pub row_of-frames_of : (row : Inside) → IsRow row → row_of (frames_of row) ≡ row
row_of-frames_of row kept =
    let size = kept.size in
    let all = length-take-le row.count row.frames (omega arith) in
    rw (all, ← kept.rest, take-append-drop) refl
