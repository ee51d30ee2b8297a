-- The CAN controller, by the SJA1000 data sheet, BasicCAN mode: its states, registers, interrupts and receiver. A frame
-- is sent at once, so the transmit buffer is always free; there is no arbitration, bus error or sleep mode. The moments
-- at which interrupts and the overrun status are set and cleared are this project's own.
use Rattle.std.specs.Prelude.{◌≡◌, ℕ, ◌+◌, ◌-◌, ◌*◌, ◌/◌, ◌%◌, ◌^◌, ◌≤◌, ◌==◌, ◌&&◌, ◌||◌, not, nat_lt, nat_le, Bool}
use Rattle.std.specs.Prelude.{true}
use Rattle.std.specs.Prelude.{false, if◌then◌else◌, List, [], ◌∷◌, ◌++◌, length, drop, find, slice_index, slice_set}
use Rattle.std.specs.Prelude.{slice_get, unwrap_or, replicate, bit_and, bit_or, sum_by}
use Rattle.std.specs.Int.{bit_at}
use Rattle.std.specs.List.{list_all}
use Rattle.std.specs.Option.{option_map_or}
use Rattle.dev_core.specs.declared.can_state.CanState.{CanState}
use Rattle.dev_core.specs.declared.payload.Effect.{Effect}
use Rattle.dev_core.specs.declared.payload.Effect.TheVariants.{Quiet, Send}
use Rattle.dev_core.specs.declared.payload.Payload.{Payload}
use Rattle.dev_core.specs.declared.payload.Payload.TheVariants.{Byte, Frame, Finish}
use Rattle.dev_core.specs.declared.payload.Taken.{Taken}
use Rattle.dev_core.specs.declared.payload.Taken.TheVariants.{Kept, Refused, Overrun}
use Rattle.dev_core.specs.Answered.{Answered, unchanged}
use Rattle.dev_core.specs.Bit.{is_set, flag}
use Rattle.dev_core.specs.CanBits.{rr, rie, tie, oie, tr, rrb, cdo, receive_status, overrun_status, transmit_status}
use Rattle.dev_core.specs.CanBits.{complete_status, receive_interrupt, transmit_interrupt, overrun_interrupt}
use Rattle.dev_core.specs.CanBits.{clock_bits, reset_mode_bits}
use Rattle.dev_core.specs.CanFrame.{frame_bytes, frame_of}
use Rattle.dev_core.specs.Frame.{FrameData, held_size}

-- the state after a reset: the reset request, bit 0 of control, holds, and all else is 0 or empty
abbrev pub can_reset : CanState
can_reset = record {
  control = 1;
  code = 0;
  mask = 0;
  timing0 = 0;
  timing1 = 0;
  output = 0;
  divider = 0;
  transmit = replicate 10 0;
  received = [];
  dos = false;
  ri = false;
  ti = false;
  doi = false;
}

-- a state that a CAN controller can have: control has five bits, bits 4 and 7 of the clock divider are 0, and the
-- received frames fit in the receive FIFO of 64 bytes
pub record IsCanState (c : CanState) : Type 0 where
  pub control : c.control ≤ 0x1F
  pub divider : bit_and c.divider 0x90 ≡ 0
  pub received : sum_by held_size c.received ≤ 64

-- reset mode, or else operating mode (section 6.3.3)
abbrev pub is_reset_mode : CanState → Bool
is_reset_mode c = is_set c.control rr

-- whether a received frame is held in the receive FIFO
abbrev pub is_held : CanState → Bool
is_held c = nat_lt 0 (length c.received)

-- CR (section 6.3.3) has five bits. To enter reset mode empties the receive FIFO and clears the overrun status and all
-- interrupts. To turn the receive interrupt on makes one where a frame is held.
abbrev pub entered_by : CanState → ℕ → Bool
entered_by c byte = is_set byte rr && not (is_reset_mode c)

abbrev pub cr_stored : CanState → ℕ → CanState
cr_stored c byte =
    if entered_by c byte
    then record c { control = byte % 2 ^ 5; received = []; dos = false; ri = false; ti = false; doi = false }
    else record c {
      control = byte % 2 ^ 5;
      ri = c.ri || (is_set byte rie && not (is_set c.control rie) && is_held c);
    }

-- CMR (section 6.3.4): three commands. CDO clears the overrun status.
abbrev pub overrun_cleared : CanState → CanState
overrun_cleared c = record c { dos = false }

-- RRB drops the first held frame; a further one makes a receive interrupt
abbrev pub buffer_released : CanState → CanState
buffer_released c = record c {
  received = drop 1 c.received;
  ri = c.ri || (is_set c.control rie && nat_lt 1 (length c.received));
}

-- TR sends the frame of the transmit buffer, which makes a transmit interrupt
abbrev pub transmit_requested : CanState → CanState
transmit_requested c = record c { ti = c.ti || is_set c.control tie }

-- a command that is given where its bit is set
abbrev pub commanded : Bool → (CanState → CanState) → CanState → CanState
commanded given command c = if given then command c else c

-- several commands in one store are done in this order: CDO, RRB, TR
abbrev pub cmr_stored : CanState → ℕ → CanState
cmr_stored c byte =
    commanded (is_set byte tr) transmit_requested
    (commanded (is_set byte rrb) buffer_released (commanded (is_set byte cdo) overrun_cleared c))

-- SR (section 6.3.5): whether a frame is held and whether one was lost; the transmit buffer is free, the last
-- transmission complete
abbrev pub sr : CanState → ℕ
sr c =
    flag (is_held c) * 2 ^ receive_status + flag c.dos * 2 ^ overrun_status + 2 ^ transmit_status
    + 2 ^ complete_status

-- IR (section 6.3.6): a load clears all interrupts
abbrev pub ir : CanState → ℕ
ir c =
    flag c.ri * 2 ^ receive_interrupt + flag c.ti * 2 ^ transmit_interrupt + flag c.doi * 2 ^ overrun_interrupt

abbrev pub ir_loaded : CanState → CanState
ir_loaded c = record c { ri = false; ti = false; doi = false }

-- CDR (section 6.5.4): operating mode writes its clock alone; bits 4 and 7 stay 0
abbrev pub clock_stored : CanState → ℕ → CanState
clock_stored c byte =
    record c { divider = bit_or (bit_and c.divider reset_mode_bits) (bit_and byte clock_bits) }

abbrev pub cdr_stored : CanState → ℕ → CanState
cdr_stored c byte = record c { divider = bit_and byte (reset_mode_bits + clock_bits) }

-- what a register is in one mode: what a load gives, what a load leaves, and what a store of a byte leaves
pub record Access : Type 0 where
  pub value : CanState → ℕ
  pub loaded : CanState → CanState
  pub stored : CanState → ℕ → CanState

-- read and written
abbrev pub read_write : (CanState → ℕ) → (CanState → ℕ → CanState) → Access
read_write value stored = record { value = value; loaded = λ c. c; stored = stored }

-- read alone
abbrev pub read_only : (CanState → ℕ) → Access
read_only value = read_write value (λ c byte. c)

-- read alone, where the load leaves another state
abbrev pub read_changing : (CanState → ℕ) → (CanState → CanState) → Access
read_changing value loaded = record { value = value; loaded = loaded; stored = λ c byte. c }

-- written alone: all bits read 1
abbrev pub write_only : (CanState → ℕ → CanState) → Access
write_only = read_write (λ c. 0xFF)

-- not to be reached: all bits read 1
abbrev pub closed : Access
closed = read_only (λ c. 0xFF)

-- one register: its address, what it is in operating mode, and what it is in reset mode
pub record CanRegister : Type 0 where
  pub address : ℕ
  pub operating : Access
  pub resetting : Access

abbrev pub by_mode : ℕ → Access → Access → CanRegister
by_mode address operating resetting =
    record { address = address; operating = operating; resetting = resetting }

abbrev pub in_both : ℕ → Access → CanRegister
in_both address access = by_mode address access access

-- the registers (section 6.3.1, table 1), but for the two buffers
abbrev pub single_registers : List CanRegister
single_registers =
    -- CR
    in_both 0 (read_write (λ c. c.control) cr_stored) ∷
    -- CMR
    by_mode 1 (write_only cmr_stored) closed ∷
    -- SR
    in_both 2 (read_only sr) ∷
    -- IR
    in_both 3 (read_changing ir ir_loaded) ∷
    -- ACR
    by_mode 4 closed (read_write (λ c. c.code) (λ c byte. record c { code = byte })) ∷
    -- AMR
    by_mode 5 closed (read_write (λ c. c.mask) (λ c byte. record c { mask = byte })) ∷
    -- BTR0
    by_mode 6 closed (read_write (λ c. c.timing0) (λ c byte. record c { timing0 = byte })) ∷
    -- BTR1
    by_mode 7 closed (read_write (λ c. c.timing1) (λ c byte. record c { timing1 = byte })) ∷
    -- OCR
    by_mode 8 closed (read_write (λ c. c.output) (λ c byte. record c { output = byte })) ∷
    -- CDR
    by_mode 31 (read_write (λ c. c.divider) clock_stored) (read_write (λ c. c.divider) cdr_stored) ∷
    []

-- the transmit buffer, registers 10 to 19: each of its ten bytes by its place
abbrev pub transmit_register : ℕ → CanRegister
transmit_register place =
    by_mode (10 + place)
    (read_write (λ c. slice_index c.transmit place) (λ c byte. record c { transmit = slice_set c.transmit place byte }))
    closed

-- the receive buffer, registers 20 to 29: the bytes of the first held frame, and 0 past its end or where none is held
abbrev pub receive_register : ℕ → CanRegister
receive_register place =
    in_both (20 + place)
    (read_only (λ c. slice_index (option_map_or frame_bytes (slice_get c.received 0) []) place))

-- what stands at an address without a register
abbrev pub no_can_register : CanRegister
no_can_register = in_both 0 (read_only (λ c. 0))

-- whether an address is among ten that begin here
abbrev pub is_among_ten : ℕ → ℕ → Bool
is_among_ten first address = nat_le first address && nat_lt address (first + 10)

-- the register at an address
abbrev pub can_register_at : ℕ → CanRegister
can_register_at address =
    if is_among_ten 10 address then transmit_register (address - 10)
    else if is_among_ten 20 address then receive_register (address - 20)
    else unwrap_or (find (λ r. r.address == address) single_registers) no_can_register

-- what it is in the present mode
abbrev pub access_at : CanState → ℕ → Access
access_at c address =
    if is_reset_mode c then (can_register_at address).resetting else (can_register_at address).operating

-- a load of a register
unfoldable pub can_load : CanState → ℕ → Answered ℕ CanState
can_load c address =
    record { answer = (access_at c address).value c; after = (access_at c address).loaded c }

-- what a store makes the controller send: with TR in operating mode, the frame of the transmit buffer
abbrev pub can_sends : CanState → ℕ → ℕ → Effect
can_sends c address byte =
    if address == 1 && not (is_reset_mode c) && is_set byte tr then Send (Frame (frame_of c.transmit)) else Quiet

-- a store of a byte in a register
unfoldable pub can_store_byte : CanState → ℕ → ℕ → Answered Effect CanState
can_store_byte c address byte =
    record { answer = can_sends c address byte; after = (access_at c address).stored c byte }

-- a store of a value, of which the lowest byte counts
abbrev pub can_store : CanState → ℕ → ℕ → Answered Effect CanState
can_store c address value = can_store_byte c address (value % 2 ^ 8)

-- the acceptance filter (section 6.3.9): each of the upper eight bits of the identifier is that of ACR, but for those
-- where AMR has a 1
abbrev pub is_accepted : ℕ → ℕ → ℕ → Bool
is_accepted code mask id =
    let upper = id / 2 ^ 3 in
    list_all (λ n. is_set mask n || bit_at upper n == bit_at code n)
    (0 ∷ 1 ∷ 2 ∷ 3 ∷ 4 ∷ 5 ∷ 6 ∷ 7 ∷ [])

-- a frame that arrives and for which the receive FIFO has room
abbrev pub frame_kept : CanState → FrameData → CanState
frame_kept c frame =
    record c { received = c.received ++ frame ∷ []; ri = c.ri || is_set c.control rie }

-- a frame that is lost: the first one since the overrun status was clear sets it, and makes an interrupt
abbrev pub frame_lost : CanState → CanState
frame_lost c = if c.dos then c else record c { dos = true; doi = c.doi || is_set c.control oie }

-- a frame that arrives: the receive FIFO has 64 bytes (section 6.3.8)
unfoldable pub can_receive : CanState → FrameData → Answered Taken CanState
can_receive c frame =
    if is_reset_mode c || not (is_accepted c.code c.mask frame.id) then unchanged Refused c
    else if nat_le (sum_by held_size c.received + held_size frame) 64
    then record { answer = Kept; after = frame_kept c frame }
    else record { answer = Overrun; after = frame_lost c }

-- a payload that is handed to a CAN controller
abbrev pub can_take : CanState → Payload → Answered Taken CanState
can_take c (Byte byte) = unchanged Refused c
can_take c (Frame frame) = can_receive c frame
can_take c (Finish finish) = unchanged Refused c

-- the interrupt line
abbrev pub can_line : CanState → Bool
can_line c = not (ir c == 0)
