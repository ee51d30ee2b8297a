-- How frames, rows of received bytes and rows of received frames are spelled.
use Rattle.std.proofs.Common.{refl, ℕ, List, length, drop, Bool}
use Rattle.std.specs.Prelude.{nat_lt, nat_le, ◌&&◌, ◌==◌, Option, Some, None, if◌then◌else◌}
use Rattle.std.specs.List.{list_all}
use Rattle.dev_core.specs.Frame.{FrameData, carried}
use Rattle.lab_encoding.specs.Form.{Form, IsLawful}
use Rattle.lab_encoding.specs.Combine.{byte, flag, list, number, only, times, via, ◌⊗◌}
use Rattle.lab_encoding.specs.Inner.Laws.{byte_lawful, flag_lawful, list_lawful, next_lawful, number_lawful}
use Rattle.lab_encoding.specs.Inner.Laws.{only_lawful}
use Rattle.lab_encoding.specs.Inner.Laws.{times_lawful, via_lawful}

-- the fields of a frame
unfoldable pub frame_fields : Form FrameData
frame_fields =
    via (λ s. (s.id, (s.remote, (s.len, s.bytes))))
    (λ (id, (remote, (len, bytes))). record { id = id; remote = remote; len = len; bytes = bytes })
    (number 2 ⊗ flag ⊗ byte ⊗ times 8 byte)

pub frame_fields_lawful : IsLawful frame_fields
unfolding frame_fields
frame_fields_lawful =
    via_lawful _ _ (λ x. refl) (λ a. refl)
    (next_lawful (number_lawful 2) (next_lawful flag_lawful (next_lawful byte_lawful (times_lawful 8 byte_lawful))))

-- whether they are those of a frame: an identifier of 11 bits, at most eight bytes, and 0 where none is carried
abbrev pub is_frame : FrameData → Bool
is_frame frame = nat_lt frame.id 2048 && nat_le frame.len 8 && list_all (λ b. b == 0) (drop (carried frame) frame.bytes)

-- the frame of these fields, if there is one
abbrev pub frame_of : FrameData → Option FrameData
frame_of frame = if is_frame frame then Some frame else None

unfoldable pub frame_form : Form FrameData
frame_form = only is_frame frame_fields

pub frame_lawful : IsLawful frame_form
unfolding frame_form
frame_lawful = only_lawful is_frame frame_fields_lawful

-- whether a row has room for so many
abbrev pub has_room : {A : Type 0} → ℕ → List A → Bool
has_room most xs = nat_le (length xs) most

-- at most sixteen bytes
unfoldable pub byte_row_form : Form (List ℕ)
byte_row_form = only (has_room 16) (list byte)

pub byte_row_lawful : IsLawful byte_row_form
unfolding byte_row_form
byte_row_lawful = only_lawful (has_room 16) (list_lawful byte_lawful)

-- at most thirty-two frames
unfoldable pub frame_row_form : Form (List FrameData)
frame_row_form = only (has_room 32) (list frame_form)

pub frame_row_lawful : IsLawful frame_row_form
unfolding frame_row_form
frame_row_lawful = only_lawful (has_room 32) (list_lawful frame_lawful)
