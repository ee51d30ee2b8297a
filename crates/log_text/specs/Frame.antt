-- A CAN frame as the log prints it.
use Rattle.std.specs.Prelude.{ℕ, Bool, true, false, List, [], ◌∷◌, ◌++◌, take, codes}
use Rattle.std.specs.List.{flat_map}
use Rattle.std.specs.Fmt.{decimal}
use Rattle.dev_core.specs.Frame.{FrameData, carried}
use Rattle.log_text.specs.Number.{hexadecimal, identifier}

abbrev pub kind_text : Bool → List ℕ
kind_text true = codes "remote"
kind_text false = codes "data"

-- bytes as pairs of digits, without blanks between them
abbrev pub pairs : List ℕ → List ℕ
pairs bytes = flat_map (hexadecimal 2) bytes

-- a blank and the bytes, or nothing where there are none
abbrev pub data_text : List ℕ → List ℕ
data_text [] = []
data_text (byte ∷ bytes) = codes " " ++ pairs (byte ∷ bytes)

-- its identifier, its kind, its length, and the bytes that it carries, as in `123 data 3 0a0b0c`
unfoldable pub frame_text : FrameData → List ℕ
frame_text frame =
    identifier frame.id ++ codes " " ++ kind_text frame.remote ++ codes " " ++ decimal frame.len
    ++ data_text (take (carried frame) frame.bytes)
