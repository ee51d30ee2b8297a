-- What a word means as an atomic instruction: the row of the table that it matches, with its registers.
use Rattle.std.specs.Prelude.{ℕ, ◌<◌, Option}
use Rattle.std.specs.Option.{option_map}
use Rattle.rv_decode.specs.Immediate.{field}
use Rattle.rv_atomic.specs.declared.atomic.AtomicOp.{AtomicOp}
use Rattle.rv_atomic.specs.declared.atomic.Atomic.{Atomic}
use Rattle.rv_atomic.specs.Table.{matched_row}

-- the registers of a word of this instruction (RISC-V Unprivileged ISA 20191213, sections 2.2 and 8.2)
abbrev pub registers_of : AtomicOp → ℕ → Atomic
registers_of op word = record { op = op; rd = field word 7 5; rs1 = field word 15 5; rs2 = field word 20 5 }

-- the atomic instruction that a word means, if it means one
unfoldable pub atomic_of : ℕ → Option Atomic
atomic_of word = option_map (λ row. registers_of row.op word) (matched_row word)

-- the numbers of registers fit
pub record IsAtomic (a : Atomic) : Type 0 where
  pub rd : a.rd < 32
  pub rs1 : a.rs1 < 32
  pub rs2 : a.rs2 < 32
