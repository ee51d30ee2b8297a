-- The places of a frame that carry nothing are 0.
use Rattle.std.proofs.Common.{◌≡◌, ◌∙◌, ◌<◌, ◌≤◌, ◌-◌, ℕ, zero, suc, List, [], ◌∷◌, ◌++◌, length, take, drop}
use Rattle.std.proofs.Common.{replicate, true, false, eqb, Some, refl, sym, ap, arith}
use Rattle.std.specs.List.{list_all}
use Rattle.std.specs.Prelude.{◌==◌}
use Rattle.std.proofs.lemmas.Bool.{eqb-true, le-leb, lt-ltb, and_parts}
use Rattle.std.proofs.lemmas.List.{take-append-drop, length-drop, length-take}
use Rattle.dev_core.specs.Frame.{FrameData, IsFrame, carried, data_frame, remote_frame}
use Rattle.lab_encoding.specs.Frames.{frame_of, is_frame}

-- bytes that are all 0
zeros_are : (xs : List ℕ) → list_all (λ b. b == 0) xs ≡ true → xs ≡ replicate (length xs) 0
zeros_are [] e = refl
zeros_are (x ∷ xs) e =
    let h = and_parts (eqb x 0) (list_all (λ b. b == 0) xs) e in
    let first : x ≡ 0 = eqb-true x 0 h.0 in
    let others = zeros_are xs h.1 in
    cc

are_zeros : (n : ℕ) → list_all (λ b. b == 0) (replicate n 0) ≡ true
are_zeros zero = refl
are_zeros (suc n) = are_zeros n

frame_is : (frame : FrameData) → frame.id < 2048 → frame.len ≤ 8 →
    list_all (λ b. b == 0) (drop (carried frame) frame.bytes) ≡ true → is_frame frame ≡ true
frame_is frame id len none = rw (lt-ltb frame.id 2048 id, le-leb frame.len 8 len, none) refl

frame_found : (frame : FrameData) → is_frame frame ≡ true → frame_of frame ≡ Some frame
frame_found frame is = rw is refl

-- a data frame that carries so many of eight bytes, of which the others are 0
pub data_found : (id len : ℕ) (bytes : List ℕ) → length bytes ≡ 8 → id < 2048 → len ≤ 8 →
    list_all (λ b. b == 0) (drop len bytes) ≡ true →
    Some (data_frame id (take len bytes))
    ≡ frame_of (record { id = id; remote = false; len = len; bytes = bytes })
data_found id len bytes size below few none =
    let frame : FrameData = record { id = id; remote = false; len = len; bytes = bytes } in
    let n : length (take len bytes) ≡ len = omega (arith, length-take len bytes) in
    let left : length (drop len bytes) ≡ 8 - len = omega (arith, length-drop len bytes) in
    let rest : drop len bytes ≡ replicate (8 - len) 0 =
    zeros_are (drop len bytes) none ∙ ap (λ (k : ℕ). replicate k 0) left in
    let whole : take len bytes ++ replicate (8 - len) 0 ≡ bytes =
    ap (λ (l : List ℕ). take len bytes ++ l) (sym rest) ∙ take-append-drop len bytes in
    rw (n, whole) (sym (frame_found frame (frame_is frame below few none)))

-- a remote frame, of which all bytes are 0
pub remote_found : (id len : ℕ) (bytes : List ℕ) → length bytes ≡ 8 → id < 2048 → len ≤ 8 →
    list_all (λ b. b == 0) bytes ≡ true →
    Some (remote_frame id len) ≡ frame_of (record { id = id; remote = true; len = len; bytes = bytes })
remote_found id len bytes size below few none =
    let frame : FrameData = record { id = id; remote = true; len = len; bytes = bytes } in
    let whole : replicate 8 0 ≡ bytes = sym (zeros_are bytes none ∙ ap (λ (k : ℕ). replicate k 0) size) in
    ap (λ (l : List ℕ). Some (record { id = id; remote = true; len = len; bytes = l })) whole
    ∙ sym (frame_found frame (frame_is frame below few none))

-- each frame passes
pub frame_passes : (frame : FrameData) → IsFrame frame → is_frame frame ≡ true
frame_passes frame is =
    frame_is frame is.id is.len (ap (list_all (λ b. b == 0)) is.rest ∙ are_zeros (8 - carried frame))
