-- The state of one hart as contracts see it, and the words that an instruction is made of.
use Rattle.std.specs.Prelude.{◌≡◌, ℕ, ◌+◌, ◌%◌, ◌^◌, ◌==◌, Bool, false, if◌then◌else◌, List, slice_index, slice_set}
use Rattle.std.specs.Prelude.{replicate, bit_and, true, ◌⊎◌}
use Rattle.std.specs.Int.{bit_at}
use Rattle.rv_hart.specs.declared.letters.Letters.{Letters}
use Rattle.rv_hart.specs.Cause.{interrupt_bits}

-- the registers x0 to x31 and the pc (Unprivileged ISA 2.1), the CSRs of machine mode (Privileged ISA
-- 3.1), of mstatus the bits MIE (`mstatus_mie`) and MPIE (`mstatus_mpie`), whether the hart waits or is halted, the
-- letters of its optional extensions and its number
pub record Core : Type 0 where
  pub x : List ℕ
  pub pc : ℕ
  pub mstatus_mie : Bool
  pub mstatus_mpie : Bool
  pub mie : ℕ
  pub mtvec : ℕ
  pub mscratch : ℕ
  pub mepc : ℕ
  pub mcause : ℕ
  pub mtval : ℕ
  pub mcycle : ℕ
  pub minstret : ℕ
  pub waiting : Bool
  pub halted : Bool
  pub letters : Letters
  pub number : ℕ

-- the core of a new hart of these letters and this number
abbrev pub initial_with : Letters → ℕ → Core
initial_with letters number = record {
  x = replicate 32 0;
  pc = 0;
  mstatus_mie = false;
  mstatus_mpie = false;
  mie = 0;
  mtvec = 0;
  mscratch = 0;
  mepc = 0;
  mcause = 0;
  mtval = 0;
  mcycle = 0;
  minstret = 0;
  waiting = false;
  halted = false;
  letters = letters;
  number = number;
}

-- the core of a new hart of no letters and the number 0
abbrev pub initial : Core
initial = initial_with (record { a = false; c = false }) 0

-- what the place of an instruction is divisible by: 4, and with compressed instructions 2 (Unprivileged ISA 1.5, 16.1)
abbrev pub alignment : Letters → ℕ
alignment letters = if letters.c then 2 else 4

-- the sizes of instructions in bytes: 4, and with compressed instructions 2 too (Unprivileged ISA 16.1)
abbrev pub IsSize : Letters → ℕ → Type 0
IsSize letters size = (size ≡ 4) ⊎ ((size ≡ 2) × (letters.c ≡ true))

-- a register's word
abbrev pub reg : Core → ℕ → ℕ
reg core n = slice_index core.x n

-- the registers after a write, which register 0 ignores
abbrev pub put : List ℕ → ℕ → ℕ → List ℕ
put xs n value = if n == 0 then xs else slice_set xs n value

-- the pc of the instruction that follows one of this size
abbrev pub next_pc : Core → ℕ → ℕ
next_pc core size = (core.pc + size) % 2 ^ 32

-- on to the next instruction after one of this size
unfoldable pub next : Core → ℕ → Core
next core size = record core { pc = next_pc core size }

-- on to the next instruction after one of this size, with this word in the register
unfoldable pub finish : Core → ℕ → ℕ → ℕ → Core
finish core size rd value = record core { x = put core.x rd value; pc = next_pc core size }

-- a jump of this size, with the pc of the next instruction in the register (Unprivileged ISA 2.5, 16.4)
unfoldable pub jump : Core → ℕ → ℕ → ℕ → Core
jump core size rd target = record core { x = put core.x rd (next_pc core size); pc = target }

-- one cycle more (Privileged ISA 3.1.10)
unfoldable pub ticked : Core → Core
ticked core = record core { mcycle = (core.mcycle + 1) % 2 ^ 64 }

-- one instruction retired (Privileged ISA 3.1.10)
unfoldable pub retired : Core → Core
retired core = record core { minstret = (core.minstret + 1) % 2 ^ 64 }

-- what holds of the core of every hart: x0 is 0, mie has only the bits of the interrupts that there are, mtvec has
-- mode 0 or 1, and mepc and the pc are places of instructions
pub record IsSound (core : Core) : Type 0 where
  pub zero : reg core 0 ≡ 0
  pub enables : bit_and core.mie interrupt_bits ≡ core.mie
  pub mode : bit_at core.mtvec 1 ≡ 0
  pub return_pc : core.mepc % alignment core.letters ≡ 0
  pub aligned : core.pc % alignment core.letters ≡ 0
