-- The table of the CSRs: what each number reads, and what a write of it leaves.
use Rattle.std.specs.Prelude.{ℕ, ◌+◌, ◌*◌, ◌/◌, ◌%◌, ◌^◌, ◌==◌, ◌||◌, Bool, if◌then◌else◌, List, [], ◌∷◌, Option, Some}
use Rattle.std.specs.Prelude.{None, find, option_and_then, option_map, is_some, bit_and}
use Prim.Native.String.{String}
use Rattle.lab_num.specs.Halves.{low, high, with_low, with_high}
use Rattle.rv_hart.specs.declared.numbers.TheConstants.{MCYCLE, MCYCLEH, MINSTRET, MINSTRETH}
use Rattle.rv_hart.specs.declared.csr.Lines.{Lines}
use Rattle.rv_hart.specs.declared.letters.Letters.{Letters}
use Rattle.rv_hart.specs.declared.numbers.Counter.{Counter}
use Rattle.rv_hart.specs.declared.numbers.Counter.TheVariants.{Mcycle, Minstret}
use Rattle.rv_hart.specs.Cause.{interrupt_bits}
use Rattle.rv_hart.specs.Core.{Core}
use Rattle.rv_hart.specs.Trap.{is_set}

-- 1 where the bit holds, or else 0
abbrev pub flag : Bool → ℕ
flag bit = if bit then 1 else 0

-- mstatus: MIE at bit 3, MPIE at bit 7, and MPP, which is always machine mode, at bits 11 and 12 (Privileged ISA 3.1.6)
abbrev pub status : Core → ℕ
status core = flag core.mstatus_mie * 2 ^ 3 + flag core.mstatus_mpie * 2 ^ 7 + 3 * 2 ^ 11

-- misa: 32 bits wide, with the base instructions and the extension M, which are the letters I and M, and with the
-- letters A and C that the hart has (Privileged ISA 3.1.1)
abbrev pub extensions : Letters → ℕ
extensions letters = 2 ^ 30 + 2 ^ 8 + 2 ^ 12 + flag letters.a * 2 ^ 0 + flag letters.c * 2 ^ 2

-- the bits that mepc holds: all but the lowest two, and with compressed instructions all but the lowest (Privileged ISA
-- 3.1.14)
abbrev pub return_bits : Letters → ℕ
return_bits letters = if letters.c then 0xFFFFFFFE else 0xFFFFFFFC

-- one CSR: its number, its name, what it reads, and the core after a write, where it can be written
pub record Row : Type 0 where
  pub number : ℕ
  pub name : String
  pub read : Core → Lines → ℕ
  pub write : Option (Core → ℕ → Core)

abbrev pub read_write : ℕ → String → (Core → Lines → ℕ) → (Core → ℕ → Core) → Row
read_write number name read write = record { number = number; name = name; read = read; write = Some write }

abbrev pub read_only : ℕ → String → (Core → Lines → ℕ) → Row
read_only number name read = record { number = number; name = name; read = read; write = None }

-- a CSR that reads 0, and one whose writes are ignored
abbrev pub zero_word : Core → Lines → ℕ
zero_word core lines = 0

abbrev pub ignored : Core → ℕ → Core
ignored core value = core

-- The CSRs of machine mode (Privileged ISA 2.2, 3.1.1 to 3.1.16) and the counters (Unprivileged ISA 10). Here c is the
-- core, l the lines, and v the value that is written.
abbrev pub rows : List Row
rows =
    -- machine trap setup
    read_write 0x300 "mstatus" (λ c l. status c)
    (λ c v. record c { mstatus_mie = is_set v 3; mstatus_mpie = is_set v 7 }) ∷
    read_write 0x310 "mstatush" zero_word ignored ∷
    read_write 0x301 "misa" (λ c l. extensions c.letters) ignored ∷
    read_write 0x304 "mie" (λ c l. c.mie) (λ c v. record c { mie = bit_and v interrupt_bits }) ∷
    read_write 0x305 "mtvec" (λ c l. c.mtvec) (λ c v. record c { mtvec = bit_and v 0xFFFFFFFD }) ∷
    -- machine trap handling
    read_write 0x340 "mscratch" (λ c l. c.mscratch) (λ c v. record c { mscratch = v }) ∷
    read_write 0x341 "mepc" (λ c l. c.mepc) (λ c v. record c { mepc = bit_and v (return_bits c.letters) }) ∷
    read_write 0x342 "mcause" (λ c l. c.mcause) (λ c v. record c { mcause = v }) ∷
    read_write 0x343 "mtval" (λ c l. c.mtval) (λ c v. record c { mtval = v }) ∷
    read_write 0x344 "mip" (λ c l. bit_and l.mip interrupt_bits) ignored ∷
    -- machine counters
    read_write 0xB00 "mcycle" (λ c l. low c.mcycle) (λ c v. record c { mcycle = with_low c.mcycle v }) ∷
    read_write 0xB80 "mcycleh" (λ c l. high c.mcycle) (λ c v. record c { mcycle = with_high c.mcycle v }) ∷
    read_write 0xB02 "minstret" (λ c l. low c.minstret) (λ c v. record c { minstret = with_low c.minstret v }) ∷
    read_write 0xB82 "minstreth" (λ c l. high c.minstret) (λ c v. record c { minstret = with_high c.minstret v }) ∷
    -- unprivileged counters and timer
    read_only 0xC00 "cycle" (λ c l. low c.mcycle) ∷
    read_only 0xC80 "cycleh" (λ c l. high c.mcycle) ∷
    read_only 0xC02 "instret" (λ c l. low c.minstret) ∷
    read_only 0xC82 "instreth" (λ c l. high c.minstret) ∷
    read_only 0xC01 "time" (λ c l. low l.mtime) ∷
    read_only 0xC81 "timeh" (λ c l. high l.mtime) ∷
    -- machine information registers
    read_only 0xF11 "mvendorid" zero_word ∷
    read_only 0xF12 "marchid" zero_word ∷
    read_only 0xF13 "mimpid" zero_word ∷
    read_only 0xF14 "mhartid" (λ c l. c.number) ∷
    []

-- the row of a number, if there is one
abbrev pub row_of : ℕ → Option Row
row_of number = find (λ row. row.number == number) rows

-- what a CSR reads, if there is one of this number
unfoldable pub csr_read : Core → Lines → ℕ → Option ℕ
csr_read core lines number = option_map (λ row. row.read core lines) (row_of number)

-- the core after a write of a CSR, if there is one of this number that can be written
unfoldable pub csr_written : Core → ℕ → ℕ → Option Core
csr_written core number value =
    option_and_then (λ row. option_map (λ write. write core value) row.write) (row_of number)

-- whether a number is in the table
unfoldable pub is_listed : ℕ → Bool
is_listed number = is_some (row_of number)

-- whether the top two of the 12 bits of a number are 11, which makes a CSR read-only (Privileged ISA 2.1)
abbrev pub is_read_only : ℕ → Bool
is_read_only number = number / 2 ^ 10 % 4 == 3

-- the counter of which a number is a half that can be written (Privileged ISA 3.1.10)
abbrev pub counter_of : ℕ → Option Counter
counter_of number =
    if (number == MCYCLE) || (number == MCYCLEH) then Some Mcycle
    else if (number == MINSTRET) || (number == MINSTRETH) then Some Minstret
    else None
