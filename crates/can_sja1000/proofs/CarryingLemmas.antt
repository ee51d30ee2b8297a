-- The bytes of a frame, from one controller's transmit buffer to another's receive buffer.
use Rattle.std.proofs.Common.{◌≡◌, ◌∙◌, ℕ, zero, suc, ◌+◌, ◌-◌, ◌*◌, ◌/◌, ◌%◌, ◌^◌, ◌<◌, ◌≤◌, ◌==◌, ◌&&◌, not, min}
use Rattle.std.proofs.Common.{nat_le, nat_lt, Bool, true, false, if◌then◌else◌, cond, List, [], ◌∷◌, ◌++◌, length}
use Rattle.std.proofs.Common.{take, drop}
use Rattle.std.proofs.Common.{replicate, slice_index, slice_set, slice_get, refl, sym, ap, subst, arith}
use Rattle.std.proofs.Common.{le-leb, lt-ltb}
use Rattle.std.proofs.Common.{eqb-true}
use Rattle.std.specs.Option.{option_map_or}
use Rattle.std.proofs.lemmas.List.{get_or-take, get_or-drop, get_or_append_left, length-take, length-take-le}
use Rattle.std.proofs.lemmas.List.{length-drop}
use Rattle.dev_core.specs.declared.can_state.CanState.{CanState}
use Rattle.dev_core.specs.declared.payload.Effect.TheVariants.{Quiet, Send}
use Rattle.dev_core.specs.declared.payload.Payload.TheVariants.{Frame}
use Rattle.dev_core.specs.declared.payload.Taken.TheVariants.{Kept}
use Rattle.dev_core.specs.Bit.{is_set, flag}
use Rattle.dev_core.specs.Can.{can_load, can_receive, can_register_at, can_store, can_store_byte}
use Rattle.dev_core.specs.Can.{is_among_ten, is_reset_mode, receive_register, transmit_register}
use Rattle.dev_core.specs.CanBits.{rtr}
use Rattle.dev_core.specs.CanFrame.{frame_bytes, frame_of, identifier_of, length_of}
use Rattle.dev_core.specs.Frame.{FrameData, data_frame, held_size, remote_frame}
use Rattle.can_sja1000.specs.Calls.{IsWritten}
use Rattle.can_sja1000.proofs.AcceptanceLemmas.{kept}

-- the addresses of the two buffers
among : (first place : ℕ) → place < 10 → is_among_ten first (first + place) ≡ true
among first place below =
    let low : nat_le first (first + place) ≡ true = le-leb first (first + place) (omega arith) in
    let high : nat_lt (first + place) (first + 10) ≡ true = lt-ltb (first + place) (first + 10) (omega arith) in
    λ i. low i && high i

and_false : (a : Bool) → (a && false) ≡ false
and_false true = refl
and_false false = refl

not_among : (place : ℕ) → is_among_ten 10 (20 + place) ≡ false
not_among place =
    let high : nat_lt (20 + place) 20 ≡ false = grind arith in
    (λ i. nat_le 10 (20 + place) && high i) ∙ and_false (nat_le 10 (20 + place))

transmit_at : (place : ℕ) → place < 10 → can_register_at (10 + place) ≡ transmit_register place
transmit_at place below =
    let back : (10 + place) - 10 ≡ place = omega arith in rw (among 10 place below, back) refl

receive_at : (place : ℕ) → place < 10 → can_register_at (20 + place) ≡ receive_register place
receive_at place below =
    let back : (20 + place) - 20 ≡ place = omega arith in rw (not_among place, among 20 place below, back) refl

-- what a store to the transmit buffer leaves
pub transmit_written :
    (c : CanState) (place value : ℕ) → is_reset_mode c ≡ false → place < 10 →
    (can_store c (10 + place) value).after ≡ record c { transmit = slice_set c.transmit place (value % 2 ^ 8) }
unfolding can_store_byte
transmit_written c place value mode below = rw (mode, transmit_at place below) refl

-- what a load of the receive buffer gives
load_received :
    (c : CanState) (place : ℕ) → place < 10 →
    (can_load c (20 + place)).answer ≡ slice_index (option_map_or frame_bytes (slice_get c.received 0) []) place
unfolding can_load
load_received c place below = rw (receive_at place below) (in_mode (is_reset_mode c))
  where
    in_mode : (b : Bool) →
        (cond b (receive_register place).resetting (receive_register place).operating).value c
        ≡ slice_index (option_map_or frame_bytes (slice_get c.received 0) []) place
    in_mode true = refl
    in_mode false = refl

-- the frame that is sent
sent_by : (bytes : List ℕ) (frame : FrameData) (sends : Bool) →
    (if sends then Send (Frame (frame_of bytes)) else Quiet) ≡ Send (Frame frame) → frame ≡ frame_of bytes
sent_by bytes frame true is = cc
sent_by bytes frame false is = cc

sent : (c : CanState) (frame : FrameData) → (can_store c 1 1).answer ≡ Send (Frame frame) → frame ≡ frame_of c.transmit
unfolding can_store_byte
sent c frame is = sent_by c.transmit frame (1 == 1 && not (is_reset_mode c) && is_set 1 0) is

-- the first two bytes, as numbers
first_back : (a b : ℕ) → b < 256 → (a * 8 + b / 32) / 8 ≡ a
first_back a b fits = omega arith

second_back : (a b : ℕ) (remote : Bool) → b < 256 → b % 16 ≤ 8 → (b / 16 % 2 == 1) ≡ remote →
    (a * 8 + b / 32) % 8 * 32 + flag remote * 16 + min (b % 16) 8 ≡ b
second_back a b true fits low is =
    let one : b / 16 % 2 ≡ 1 = eqb-true _ 1 is in
    omega (arith, one)
second_back a b false fits low is =
    let none : b / 16 % 2 ≡ 0 = grind (arith, is) in
    omega (arith, none)

-- the data that ten bytes say
abbrev said : List ℕ → List ℕ
said bytes = take (length_of bytes) (drop 2 bytes)

length-said : (bytes : List ℕ) → length bytes ≡ 10 → length (said bytes) ≡ length_of bytes
length-said bytes ten = length-take-le (length_of bytes) (drop 2 bytes) (omega (arith, length-drop 2 bytes, ten))

-- a place of the data
data_back :
    (bytes : List ℕ) (k : ℕ) → k < length (said bytes) → length (said bytes) ≡ length_of bytes →
    slice_index (take (length (said bytes)) (said bytes ++ replicate (8 - length (said bytes)) 0)) k
    ≡ slice_index bytes (2 + k)
data_back bytes k within size =
    let low : k < length_of bytes = omega (arith, within, size) in
    get_or-take (length (said bytes)) (said bytes ++ replicate (8 - length (said bytes)) 0) k 0 within
    ∙ get_or_append_left (said bytes) (replicate (8 - length (said bytes)) 0) 0 k within
    ∙ get_or-take (length_of bytes) (drop 2 bytes) k 0 low
    ∙ get_or-drop 2 bytes k 0

-- the frame that ten bytes say, by its kind
abbrev said_by : List ℕ → Bool → FrameData
said_by bytes remote =
    if remote then remote_frame (identifier_of bytes) (length_of bytes)
    else data_frame (identifier_of bytes) (said bytes)

-- its bytes are these bytes
bytes_back :
    (bytes : List ℕ) (remote : Bool) (place : ℕ) → IsWritten bytes → is_set (slice_index bytes 1) rtr ≡ remote →
    place < held_size (said_by bytes remote) →
    slice_index (frame_bytes (said_by bytes remote)) place ≡ slice_index bytes place
bytes_back bytes true zero w is below = first_back _ _ (w.fits 1 0 (omega (arith, w.places)))
bytes_back bytes true (suc zero) w is below =
    second_back _ _ true (w.fits 1 0 (omega (arith, w.places))) w.code is
bytes_back bytes true (suc (suc k)) w is below = absurd (omega (arith, below))
bytes_back bytes false zero w is below = first_back _ _ (w.fits 1 0 (omega (arith, w.places)))
bytes_back bytes false (suc zero) w is below =
    rw (length-said bytes w.places) (second_back _ _ false (w.fits 1 0 (omega (arith, w.places))) w.code is)
bytes_back bytes false (suc (suc k)) w is below =
    let within : k < length (said bytes) = omega (arith, below) in
    let two : suc (suc k) ≡ 2 + k = omega arith in
    data_back bytes k within (length-said bytes w.places) ∙ ap (slice_index bytes) (sym two)

held_most : (bytes : List ℕ) (remote : Bool) → held_size (said_by bytes remote) ≤ 10
held_most bytes true = omega arith
held_most bytes false = omega (arith, length-take (length_of bytes) (drop 2 bytes))

-- what was written and sent reads as it was written
pub carried_over :
    (c d : CanState) (frame : FrameData) (place : ℕ) →
    IsWritten c.transmit → (can_store c 1 1).answer ≡ Send (Frame frame) →
    d.received ≡ [] → (can_receive d frame).answer ≡ Kept → place < held_size frame →
    (can_load (can_receive d frame).after (20 + place)).answer ≡ slice_index c.transmit place
carried_over c d frame place w sends empty is below =
    let same : frame ≡ frame_of c.transmit = sent c frame sends in
    let remote = is_set (slice_index c.transmit 1) rtr in
    let within : place < held_size (frame_of c.transmit) = subst (λ (f : FrameData). place < held_size f) same below in
    let ten : place < 10 = omega (arith, within, held_most c.transmit remote) in
    let received : (can_receive d frame).after.received ≡ frame_of c.transmit ∷ [] =
    ap (λ (s : CanState). s.received) (kept d frame is) ∙ (λ i. empty i ++ same i ∷ []) in
    load_received (can_receive d frame).after place ten
    ∙ ap (λ (rs : List FrameData). slice_index (option_map_or frame_bytes (slice_get rs 0) []) place) received
    ∙ bytes_back c.transmit remote place w refl within
