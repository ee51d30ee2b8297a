-- The UART, by the PC16550D data sheet, section 8: its registers, interrupts and receiver. A byte is sent at once, so
-- the transmitter is always empty; there are no modem lines, parity, framing or break.
use Rattle.std.specs.Prelude.{ℕ, ◌+◌, ◌*◌, ◌/◌, ◌%◌, ◌^◌, ◌≤◌, ◌==◌, ◌&&◌, ◌||◌, not, nat_lt, nat_le, Bool, true, false}
use Rattle.std.specs.Prelude.{IsTrue, if◌then◌else◌, List, [], ◌∷◌, ◌++◌, length, drop, find, slice_index, unwrap_or}
use Rattle.dev_core.specs.declared.payload.Effect.{Effect}
use Rattle.dev_core.specs.declared.payload.Effect.TheVariants.{Quiet, Send}
use Rattle.dev_core.specs.declared.payload.Payload.{Payload}
use Rattle.dev_core.specs.declared.payload.Payload.TheVariants.{Byte, Frame, Finish}
use Rattle.dev_core.specs.declared.payload.Taken.{Taken}
use Rattle.dev_core.specs.declared.payload.Taken.TheVariants.{Kept, Refused, Overrun}
use Rattle.dev_core.specs.declared.uart_state.UartState.{UartState}
use Rattle.dev_core.specs.Answered.{Answered, unchanged}
use Rattle.dev_core.specs.Bit.{is_set, flag}
use Rattle.dev_core.specs.UartBits.{erbfi, etbei, elsi, fifo_enable, receiver_reset, dlab, dr, overrun, thre, temt, cts}
use Rattle.dev_core.specs.UartBits.{dsr, dcd}

-- the state after a reset (table I)
abbrev pub uart_reset : UartState
uart_reset = record {
  ier = 0;
  lcr = 0;
  mcr = 0;
  scr = 0;
  dll = 0;
  dlm = 0;
  fifos = false;
  trigger = 1;
  received = [];
  oe = false;
  thr = false;
}

-- how many received bytes there is room for: the receiver FIFO's sixteen, or one with the FIFOs off
abbrev pub capacity : Bool → ℕ
capacity fifos = if fifos then 16 else 1

-- the trigger levels of the receiver FIFO (section 8.5); with the FIFOs off each byte reaches it
abbrev pub is_trigger : Bool → ℕ → Bool
is_trigger fifos level = if fifos then level == 1 || level == 4 || level == 8 || level == 14 else level == 1

-- a state that a UART can have
pub record IsUartState (u : UartState) : Type 0 where
  pub ier : u.ier ≤ 0x0F
  pub mcr : u.mcr ≤ 0x1F
  pub trigger : IsTrue (is_trigger u.fifos u.trigger)
  pub received : length u.received ≤ capacity u.fifos

-- RBR (summary of registers, table II): a load takes the oldest received byte out, and gives 0 where there is none
abbrev pub rbr : UartState → ℕ
rbr u = slice_index u.received 0

abbrev pub rbr_loaded : UartState → UartState
rbr_loaded u = record u { received = drop 1 u.received }

-- THR: a byte that is stored is sent at once, and THR is empty again
abbrev pub thr_stored : UartState → ℕ → UartState
thr_stored u byte = record u { thr = true }

-- IER (section 8.7) has four bits. To turn the interrupt of THR empty on makes one, since THR is empty.
abbrev pub ier_stored : UartState → ℕ → UartState
ier_stored u byte =
    record u { ier = byte % 2 ^ 4; thr = u.thr || (is_set byte etbei && not (is_set u.ier etbei)) }

-- the causes of an interrupt in IIR (section 8.6, table IV)
abbrev pub no_interrupt : ℕ
no_interrupt = 0x01

abbrev pub line_status : ℕ
line_status = 0x06

abbrev pub received_data : ℕ
received_data = 0x04

abbrev pub character_timeout : ℕ
character_timeout = 0x0C

abbrev pub thr_empty : ℕ
thr_empty = 0x02

-- the cause that is told, by priority (table IV): a lost byte; as many bytes as the trigger level; fewer bytes, in
-- the FIFO; THR empty
abbrev pub cause : UartState → ℕ
cause u =
    if is_set u.ier elsi && u.oe then line_status
    else if is_set u.ier erbfi && nat_le u.trigger (length u.received) then received_data
    else if is_set u.ier erbfi && u.fifos && nat_lt 0 (length u.received) then character_timeout
    else if is_set u.ier etbei && u.thr then thr_empty
    else no_interrupt

-- IIR (section 8.6): the cause, and bits 6 and 7 with the FIFOs on; a load that tells THR empty clears that interrupt
abbrev pub iir : UartState → ℕ
iir u = cause u + (if u.fifos then 0xC0 else 0)

abbrev pub iir_loaded : UartState → UartState
iir_loaded u = if cause u == thr_empty then record u { thr = false } else u

-- FCR (section 8.5): to turn the FIFOs on or off empties the receiver; bits 7 and 6 choose the trigger level
abbrev pub trigger_level : ℕ → ℕ
trigger_level choice = if choice == 0 then 1 else if choice == 1 then 4 else if choice == 2 then 8 else 14

abbrev pub fifos_on : UartState → ℕ → UartState
fifos_on u byte = record u {
  fifos = true;
  trigger = trigger_level (byte / 2 ^ 6);
  received = if u.fifos && not (is_set byte receiver_reset) then u.received else [];
}

abbrev pub fifos_off : UartState → UartState
fifos_off u = record u { fifos = false; trigger = 1; received = if u.fifos then [] else u.received }

abbrev pub fcr_stored : UartState → ℕ → UartState
fcr_stored u byte = if is_set byte fifo_enable then fifos_on u byte else fifos_off u

-- LSR (section 8.4): whether a byte is there to be read and whether one was lost, which a load clears; THR and the
-- transmitter are empty
abbrev pub lsr : UartState → ℕ
lsr u = flag (nat_lt 0 (length u.received)) * 2 ^ dr + flag u.oe * 2 ^ overrun + 2 ^ thre + 2 ^ temt

abbrev pub lsr_loaded : UartState → UartState
lsr_loaded u = record u { oe = false }

-- MSR (section 8.9): the modem is always there and ready
abbrev pub msr : UartState → ℕ
msr u = 2 ^ cts + 2 ^ dsr + 2 ^ dcd

-- one register: its address, what a load gives, what a load leaves, and what a store of a byte leaves
pub record Register : Type 0 where
  pub address : ℕ
  pub value : UartState → ℕ
  pub loaded : UartState → UartState
  pub stored : UartState → ℕ → UartState

abbrev pub register :
    ℕ → (UartState → ℕ) → (UartState → UartState) → (UartState → ℕ → UartState) → Register
register address value loaded stored =
    record { address = address; value = value; loaded = loaded; stored = stored }

-- a load, or a store, that leaves the UART as it is
abbrev pub same : UartState → UartState
same u = u

abbrev pub ignored : UartState → ℕ → UartState
ignored u byte = u

-- registers 0 and 1
abbrev pub data_registers : List Register
data_registers =
    -- RBR, THR
    register 0 rbr rbr_loaded thr_stored ∷
    -- IER
    register 1 (λ u. u.ier) same ier_stored ∷
    []

-- and with DLAB set, the divisor latch (section 8.3)
abbrev pub divisor_registers : List Register
divisor_registers =
    -- DLL
    register 0 (λ u. u.dll) same (λ u byte. record u { dll = byte }) ∷
    -- DLM
    register 1 (λ u. u.dlm) same (λ u byte. record u { dlm = byte }) ∷
    []

-- the other registers; MCR has five bits (section 8.8)
abbrev pub other_registers : List Register
other_registers =
    -- IIR, FCR
    register 2 iir iir_loaded fcr_stored ∷
    -- LCR
    register 3 (λ u. u.lcr) same (λ u byte. record u { lcr = byte }) ∷
    -- MCR
    register 4 (λ u. u.mcr) same (λ u byte. record u { mcr = byte % 2 ^ 5 }) ∷
    -- LSR
    register 5 lsr lsr_loaded ignored ∷
    -- MSR
    register 6 msr same ignored ∷
    -- SCR
    register 7 (λ u. u.scr) same (λ u byte. record u { scr = byte }) ∷
    []

-- whether the divisor latch stands in the place of registers 0 and 1 (section 8.1)
abbrev pub is_divisor_shown : UartState → Bool
is_divisor_shown u = is_set u.lcr dlab

-- the registers of a UART (table II)
abbrev pub registers : UartState → List Register
registers u = (if is_divisor_shown u then divisor_registers else data_registers) ++ other_registers

-- what stands at an address without a register
abbrev pub no_register : Register
no_register = register 0 (λ u. 0) same ignored

-- the register at an address
abbrev pub register_at : UartState → ℕ → Register
register_at u address = unwrap_or (find (λ r. r.address == address) (registers u)) no_register

-- a load of a register
unfoldable pub uart_load : UartState → ℕ → Answered ℕ UartState
uart_load u address =
    record { answer = (register_at u address).value u; after = (register_at u address).loaded u }

-- what a store makes the UART send: the byte that is stored in THR
abbrev pub uart_sends : UartState → ℕ → ℕ → Effect
uart_sends u address byte = if not (is_divisor_shown u) && address == 0 then Send (Byte byte) else Quiet

-- a store of a byte in a register
unfoldable pub uart_store_byte : UartState → ℕ → ℕ → Answered Effect UartState
uart_store_byte u address byte =
    record { answer = uart_sends u address byte; after = (register_at u address).stored u byte }

-- a store of a value, of which the lowest byte counts
abbrev pub uart_store : UartState → ℕ → ℕ → Answered Effect UartState
uart_store u address value = uart_store_byte u address (value % 2 ^ 8)

-- a byte that arrives: with no room left it is lost in the FIFO, and without FIFOs it replaces the one before it
-- (section 8.4, bit 1)
unfoldable pub uart_receive : UartState → ℕ → Answered Taken UartState
uart_receive u byte =
    if nat_lt (length u.received) (capacity u.fifos)
    then record { answer = Kept; after = record u { received = u.received ++ byte ∷ [] } }
    else record {
      answer = Overrun;
      after = record u { received = if u.fifos then u.received else byte ∷ []; oe = true };
    }

-- a payload that is handed to a UART
abbrev pub uart_take : UartState → Payload → Answered Taken UartState
uart_take u (Byte byte) = uart_receive u byte
uart_take u (Frame frame) = unchanged Refused u
uart_take u (Finish finish) = unchanged Refused u

-- the interrupt line
abbrev pub uart_line : UartState → Bool
uart_line u = not (cause u == no_interrupt)
