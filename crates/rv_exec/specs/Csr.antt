-- The instructions that read and change a CSR (RISC-V Unprivileged ISA 20191213, section 9.1).
use Rattle.std.specs.Prelude.{ℕ, ◌==◌, not, Bool, true, if◌then◌else◌, Option, Some, None, option_and_then, option_map}
use Rattle.std.specs.Prelude.{bit_and, bit_or}
use Rattle.std.specs.Int.{w32, bit_not}
use Rattle.rv_decode.specs.declared.instruction.Instr.{Instr}
use Rattle.rv_hart.specs.declared.csr.Lines.{Lines}
use Rattle.rv_hart.specs.declared.numbers.Counter.{Counter}
use Rattle.rv_hart.specs.Core.{Core, finish}
use Rattle.rv_hart.specs.Csr.{csr_read, csr_written, counter_of}
use Rattle.rv_exec.specs.declared.csr.CsrChange.{CsrChange}
use Rattle.rv_exec.specs.declared.csr.CsrChange.TheVariants.{Write, Set, Clear}
use Rattle.rv_exec.specs.declared.ending.Ending.TheVariants.{Retired}
use Rattle.rv_exec.specs.Outcome.{Outcome, outcome}

-- the value that is written, of the old value and the operand
abbrev pub changed : CsrChange → ℕ → ℕ → ℕ
changed Write old operand = operand
changed Set old operand = bit_or old operand
changed Clear old operand = bit_and old (bit_not w32 operand)

-- a write with rd 0 does not read the CSR
abbrev pub reads : CsrChange → Instr → Bool
reads Write i = not (i.rd == 0)
reads Set i = true
reads Clear i = true

-- with rs1 0, which is x0 or the immediate 0, bits are neither set nor cleared
abbrev pub writes : CsrChange → Instr → Bool
writes Write i = true
writes Set i = not (i.rs1 == 0)
writes Clear i = not (i.rs1 == 0)

-- the value that is read, or 0 where none is; there is none where the CSR cannot be read
abbrev pub old_value : CsrChange → Core → Instr → Lines → Option ℕ
old_value change core i lines = if reads change i then csr_read core lines i.imm else Some 0

-- the core after the write, if there is one; there is none where the CSR cannot be written
abbrev pub after_write : CsrChange → ℕ → Core → Instr → Option Core
after_write change value core i = if writes change i then csr_written core i.imm value else Some core

-- the counter of which an access writes a half, if it does
abbrev pub counter_written : CsrChange → Instr → Option Counter
counter_written change i = if writes change i then counter_of i.imm else None

-- the access, which puts the value that was read into a register; there is none where it is illegal
abbrev pub accessed : CsrChange → ℕ → Core → Instr → ℕ → Lines → Option Outcome
accessed change operand core i size lines =
    option_and_then
    (λ old. option_map
    (λ after. outcome (finish after size i.rd old) (Retired (counter_written change i)))
    (after_write change (changed change old operand) core i))
    (old_value change core i lines)
