-- The named bits of the CAN controller's registers (SJA1000 data sheet, section 6.3), by their places.
use Rattle.std.specs.Prelude.{ℕ}

-- CR (section 6.3.3): reset request, and the enables of the receive, transmit and overrun interrupts
abbrev pub rr : ℕ
rr = 0

abbrev pub rie : ℕ
rie = 1

abbrev pub tie : ℕ
tie = 2

abbrev pub oie : ℕ
oie = 4

-- CMR (section 6.3.4): transmission request, release receive buffer, clear data overrun
abbrev pub tr : ℕ
tr = 0

abbrev pub rrb : ℕ
rrb = 2

abbrev pub cdo : ℕ
cdo = 3

-- SR (section 6.3.5): receive buffer status, data overrun status, transmit buffer status (it is free), transmission
-- complete status
abbrev pub receive_status : ℕ
receive_status = 0

abbrev pub overrun_status : ℕ
overrun_status = 1

abbrev pub transmit_status : ℕ
transmit_status = 2

abbrev pub complete_status : ℕ
complete_status = 3

-- IR (section 6.3.6): receive, transmit and data overrun interrupt
abbrev pub receive_interrupt : ℕ
receive_interrupt = 0

abbrev pub transmit_interrupt : ℕ
transmit_interrupt = 1

abbrev pub overrun_interrupt : ℕ
overrun_interrupt = 3

-- the second byte of a buffer (section 6.3.7): remote transmission request
abbrev pub rtr : ℕ
rtr = 4

-- CDR (section 6.5.4): bits 0 to 2 choose the clock that is put out; bits 3, 5 and 6, which are written in reset mode
-- alone, turn that clock off, make the receive output an interrupt and bypass the comparator
abbrev pub clock_bits : ℕ
clock_bits = 0x07

abbrev pub reset_mode_bits : ℕ
reset_mode_bits = 0x68
