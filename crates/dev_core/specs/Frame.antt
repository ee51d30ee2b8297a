-- The frames of a CAN bus (CAN 2.0A): a data frame, or a remote frame, which asks for data and carries none.
use Rattle.std.specs.Prelude.{◌≡◌, ℕ, ◌+◌, ◌-◌, ◌<◌, ◌≤◌, Bool, true, false, if◌then◌else◌, List, ◌++◌, length, drop}
use Rattle.std.specs.Prelude.{replicate, ◌==◌, ◌&&◌, nat_eq}
use Rattle.std.specs.Bool.{beq}
use Rattle.std.specs.Cmp.Lexicographic.{pointwise}

-- a frame as contracts see it
pub record FrameData : Type 0 where
  pub id : ℕ
  pub remote : Bool
  pub len : ℕ
  pub bytes : List ℕ

-- how many of its bytes carry data
abbrev pub carried : FrameData → ℕ
carried frame = if frame.remote then 0 else frame.len

-- an identifier has 11 bits; there are at most eight bytes, and the places without data are 0
pub record IsFrame (frame : FrameData) : Type 0 where
  pub id : frame.id < 2048
  pub len : frame.len ≤ 8
  pub size : length frame.bytes ≡ 8
  pub rest : drop (carried frame) frame.bytes ≡ replicate (8 - carried frame) 0

-- a data frame with these bytes
abbrev pub data_frame : ℕ → List ℕ → FrameData
data_frame id bytes = record {
  id = id;
  remote = false;
  len = length bytes;
  bytes = bytes ++ replicate (8 - length bytes) 0;
}

-- a remote frame that asks for so many bytes
abbrev pub remote_frame : ℕ → ℕ → FrameData
remote_frame id len = record { id = id; remote = true; len = len; bytes = replicate 8 0 }

-- how many bytes a frame takes in the receive FIFO of the SJA1000: two for identifier, kind and length, and its data
abbrev pub held_size : FrameData → ℕ
held_size frame = 2 + carried frame

-- whether two frames are one
abbrev pub same_frame : FrameData → FrameData → Bool
same_frame a b = a.id == b.id && beq a.remote b.remote && a.len == b.len && pointwise nat_eq a.bytes b.bytes
