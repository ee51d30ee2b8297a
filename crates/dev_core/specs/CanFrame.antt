-- How a frame lies in the transmit and in the receive buffer of a CAN controller (SJA1000 data sheet, sections 6.3.7
-- and 6.3.8).
use Rattle.std.specs.Prelude.{ℕ, ◌+◌, ◌*◌, ◌/◌, ◌%◌, ◌^◌, min, if◌then◌else◌, List, ◌∷◌, drop, take, slice_index}
use Rattle.dev_core.specs.Bit.{is_set, flag}
use Rattle.dev_core.specs.CanBits.{rtr}
use Rattle.dev_core.specs.Frame.{FrameData, carried, data_frame, remote_frame}

-- its bytes: bits 10 to 3 of the identifier; bits 2 to 0, RTR and the data length code; the data
abbrev pub frame_bytes : FrameData → List ℕ
frame_bytes frame =
    frame.id / 2 ^ 3 ∷
    (frame.id % 2 ^ 3 * 2 ^ 5 + flag frame.remote * 2 ^ rtr + frame.len) ∷
    take (carried frame) frame.bytes

-- the identifier that stands in the first two bytes
abbrev pub identifier_of : List ℕ → ℕ
identifier_of bytes = slice_index bytes 0 * 2 ^ 3 + slice_index bytes 1 / 2 ^ 5

-- how many bytes are sent, or asked for: a data length code above 8 counts as 8
abbrev pub length_of : List ℕ → ℕ
length_of bytes = min (slice_index bytes 1 % 2 ^ 4) 8

-- the frame that the bytes of the transmit buffer say
abbrev pub frame_of : List ℕ → FrameData
frame_of bytes =
    if is_set (slice_index bytes 1) rtr then remote_frame (identifier_of bytes) (length_of bytes)
    else data_frame (identifier_of bytes) (take (length_of bytes) (drop 2 bytes))
