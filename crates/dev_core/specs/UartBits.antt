-- The named bits of the UART's registers (PC16550D data sheet, section 8), by their places.
use Rattle.std.specs.Prelude.{ℕ}

-- IER (section 8.7): enable the received data interrupts, that of THR empty and that of the line status
abbrev pub erbfi : ℕ
erbfi = 0

abbrev pub etbei : ℕ
etbei = 1

abbrev pub elsi : ℕ
elsi = 2

-- FCR (section 8.5): turn the FIFOs on, and empty the receiver's
abbrev pub fifo_enable : ℕ
fifo_enable = 0

abbrev pub receiver_reset : ℕ
receiver_reset = 1

-- LCR (section 8.1): divisor latch access
abbrev pub dlab : ℕ
dlab = 7

-- LSR (section 8.4): data ready, overrun error, THR empty, transmitter empty
abbrev pub dr : ℕ
dr = 0

abbrev pub overrun : ℕ
overrun = 1

abbrev pub thre : ℕ
thre = 5

abbrev pub temt : ℕ
temt = 6

-- MSR (section 8.9): clear to send, data set ready, data carrier detect
abbrev pub cts : ℕ
cts = 4

abbrev pub dsr : ℕ
dsr = 5

abbrev pub dcd : ℕ
dcd = 7
