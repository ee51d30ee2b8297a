-- Laws of the definitions, over every core.
use Rattle.std.specs.Prelude.{◌≡◌, ◌≢◌, ℕ, ◌<◌, ◌^◌, Some, option_and_then, unwrap_or, IsSomeAnd, bit_and}
use Rattle.rv_hart.specs.declared.numbers.TheConstants.{MSTATUS, MEPC}
use Rattle.rv_hart.specs.declared.csr.Lines.{Lines}
use Rattle.rv_hart.specs.declared.numbers.Counter.TheVariants.{Mcycle, Minstret}
use Rattle.rv_hart.specs.Core.{Core}
use Rattle.rv_hart.specs.Csr.{csr_read, csr_written, counter_of, return_bits}
use Rattle.rv_hart.specs.Trap.{enter, is_set, leave}

-- a return after an entry is back at the pc
abbrev pub ReturnsToPc : Type 0
ReturnsToPc = (core : Core) (cause value : ℕ) → (leave (enter core cause value)).pc ≡ core.pc

-- a return after an entry gives MIE back
abbrev pub ReturnsMie : Type 0
ReturnsMie = (core : Core) (cause value : ℕ) → (leave (enter core cause value)).mstatus_mie ≡ core.mstatus_mie

-- a CSR that holds a word reads back what was written, under the mask of the bits that it holds
abbrev pub ReadsBack : ℕ → ℕ → Type 0
ReadsBack number mask =
    (core : Core) (lines : Lines) (value : ℕ) →
    value < 2 ^ 32 →
    option_and_then (λ after. csr_read after lines number) (csr_written core number value) ≡ Some (bit_and value mask)

-- mepc reads back what was written, under the mask of the bits that it holds in this hart
abbrev pub MepcReadsBack : Type 0
MepcReadsBack =
    (core : Core) (lines : Lines) (value : ℕ) →
    value < 2 ^ 32 →
    option_and_then (λ after. csr_read after lines MEPC) (csr_written core MEPC value)
    ≡ Some (bit_and value (return_bits core.letters))

-- mstatus reads back what was written of this bit
abbrev pub StatusReadsBack : ℕ → Type 0
StatusReadsBack n =
    (core : Core) (lines : Lines) (value : ℕ) →
    IsSomeAnd (option_and_then (λ after. csr_read after lines MSTATUS) (csr_written core MSTATUS value))
    (λ word. is_set word n ≡ is_set value n)

-- mcycle stays in a write of any CSR but its halves
abbrev pub KeepsMcycle : Type 0
KeepsMcycle =
    (core : Core) (number value : ℕ) →
    counter_of number ≢ Some Mcycle →
    (unwrap_or (csr_written core number value) core).mcycle ≡ core.mcycle

-- and so does minstret
abbrev pub KeepsMinstret : Type 0
KeepsMinstret =
    (core : Core) (number value : ℕ) →
    counter_of number ≢ Some Minstret →
    (unwrap_or (csr_written core number value) core).minstret ≡ core.minstret
