-- The causes of traps in machine mode (RISC-V Privileged Architecture 20211203, table 3.6).
use Rattle.std.specs.Prelude.{ℕ, ◌+◌, ◌^◌}
use Rattle.rv_hart.specs.declared.cause.Exception.{Exception}
use Rattle.rv_hart.specs.declared.cause.Exception.TheVariants as exception

-- the exceptions
abbrev pub instruction_address_misaligned : ℕ
instruction_address_misaligned = 0

abbrev pub instruction_access_fault : ℕ
instruction_access_fault = 1

abbrev pub illegal_instruction : ℕ
illegal_instruction = 2

abbrev pub breakpoint : ℕ
breakpoint = 3

abbrev pub load_address_misaligned : ℕ
load_address_misaligned = 4

abbrev pub load_access_fault : ℕ
load_access_fault = 5

abbrev pub store_address_misaligned : ℕ
store_address_misaligned = 6

abbrev pub store_access_fault : ℕ
store_access_fault = 7

abbrev pub environment_call : ℕ
environment_call = 11

-- the cause of an exception
abbrev pub cause_of : Exception → ℕ
cause_of exception.InstructionAddressMisaligned = instruction_address_misaligned
cause_of exception.InstructionAccessFault = instruction_access_fault
cause_of exception.IllegalInstruction = illegal_instruction
cause_of exception.Breakpoint = breakpoint
cause_of exception.LoadAddressMisaligned = load_address_misaligned
cause_of exception.LoadAccessFault = load_access_fault
cause_of exception.StoreAddressMisaligned = store_address_misaligned
cause_of exception.StoreAccessFault = store_access_fault
cause_of exception.EnvironmentCall = environment_call

-- the interrupts, by their bit in mip and mie
abbrev pub software_interrupt : ℕ
software_interrupt = 3

abbrev pub timer_interrupt : ℕ
timer_interrupt = 7

abbrev pub external_interrupt : ℕ
external_interrupt = 11

-- their bits (Privileged ISA 3.1.9)
abbrev pub interrupt_bits : ℕ
interrupt_bits = 2 ^ software_interrupt + 2 ^ timer_interrupt + 2 ^ external_interrupt

-- the cause of the interrupt n has the top bit set besides (Privileged ISA 3.1.15)
abbrev pub interrupt_cause : ℕ → ℕ
interrupt_cause n = 2 ^ 31 + n
