-- What a slot does by what was fetched: the core after it, how its instruction ends, and what it asks of the bus.
use Rattle.std.specs.Prelude.{ℕ, ◌*◌, ◌/◌, ◌%◌, ◌^◌, ◌==◌, ◌||◌, not, Bool, true, if◌then◌else◌, Option, Some, None}
use Rattle.std.specs.Prelude.{nat_lt, int_lt, unwrap_or, bit_and, bit_or, bit_xor}
use Rattle.std.specs.Option.{option_map_or}
use Rattle.rv_decode.specs.declared.instruction.Op.{Op}
use Rattle.rv_decode.specs.declared.instruction.Op.TheVariants.{Lui, Auipc, Jal, Jalr, Beq, Bne, Blt, Bge, Bltu, Bgeu}
use Rattle.rv_decode.specs.declared.instruction.Op.TheVariants.{Lb, Lh, Lw, Lbu, Lhu, Sb, Sh, Sw, Addi, Slti, Sltiu}
use Rattle.rv_decode.specs.declared.instruction.Op.TheVariants.{Xori, Ori, Andi, Slli, Srli, Srai, Add, Sub, Sll, Slt}
use Rattle.rv_decode.specs.declared.instruction.Op.TheVariants.{Sltu, Xor, Srl, Sra, Or, And, Fence, Ecall, Ebreak}
use Rattle.rv_decode.specs.declared.instruction.Op.TheVariants.{FenceI, Csrrw, Csrrs, Csrrc, Csrrwi, Csrrsi, Csrrci}
use Rattle.rv_decode.specs.declared.instruction.Op.TheVariants.{Mul, Mulh, Mulhsu, Mulhu, Div, Divu, Rem, Remu, Mret}
use Rattle.rv_decode.specs.declared.instruction.Op.TheVariants.{Wfi}
use Rattle.rv_decode.specs.declared.instruction.Instr.{Instr}
use Rattle.rv_decode.specs.Means.{means}
use Rattle.rv_hart.specs.declared.csr.Lines.{Lines}
use Rattle.rv_hart.specs.Cause.{instruction_address_misaligned, instruction_access_fault, illegal_instruction}
use Rattle.rv_hart.specs.Cause.{breakpoint, load_address_misaligned, store_address_misaligned, environment_call}
use Rattle.rv_hart.specs.Core.{Core, reg, next, finish, jump}
use Rattle.rv_hart.specs.Trap.{leave}
use Rattle.rv_exec.specs.declared.access.Shape.{Shape}
use Rattle.rv_exec.specs.declared.access.Shape.TheVariants.{Unsigned, SignedByte, SignedHalf}
use Rattle.rv_exec.specs.declared.csr.CsrChange.{CsrChange}
use Rattle.rv_exec.specs.declared.csr.CsrChange.TheVariants.{Write, Set, Clear}
use Rattle.rv_exec.specs.declared.fetched.Fetched.{Fetched}
use Rattle.rv_exec.specs.declared.fetched.Fetched.TheVariants.{Fault, Bad, Good}
use Rattle.rv_exec.specs.Word.{signed, add, sub, shift_left, shift_right, shift_right_signed, less, less_unsigned}
use Rattle.rv_exec.specs.Word.{product, upper_signed, upper_mixed, upper_unsigned, quotient, remainder}
use Rattle.rv_exec.specs.Word.{quotient_unsigned, remainder_unsigned}
use Rattle.rv_exec.specs.Access.{shaped}
use Rattle.rv_exec.specs.Outcome.{Outcome, retires, traps, counted}
use Rattle.rv_exec.specs.Csr.{accessed}

-- the instruction ends with this outcome, or it asks the bus for one load, at an address and of a width, whose answer
-- gives the outcome, or for one store, at an address, of a width and of a value, and ends with this outcome
pub data Effect : Type 0 where
  Done : Outcome → Effect
  Load : ℕ → ℕ → (ℕ → Outcome) → Effect
  Store : ℕ → ℕ → ℕ → Outcome → Effect

-- an operation on a register and an immediate, and one on two registers (Unprivileged ISA 2.4)
abbrev pub with_immediate : (ℕ → ℕ → ℕ) → Core → Instr → ℕ → Effect
with_immediate f core i size = Done (retires (finish core size i.rd (f (reg core i.rs1) i.imm)))

abbrev pub with_registers : (ℕ → ℕ → ℕ) → Core → Instr → ℕ → Effect
with_registers f core i size = Done (retires (finish core size i.rd (f (reg core i.rs1) (reg core i.rs2))))

-- a jump, with the pc of the next instruction in a register, or an exception where its target is not divisible by 4
-- and the hart has no compressed instructions (Unprivileged ISA 2.2, 2.5, 16.1)
abbrev pub jumps : Core → ℕ → ℕ → ℕ → Outcome
jumps core size rd target =
    if core.letters.c || target % 4 == 0 then retires (jump core size rd target)
    else traps core instruction_address_misaligned target

-- a conditional branch: where it is taken, a jump that writes no register (Unprivileged ISA 2.5)
abbrev pub branches : Core → ℕ → Bool → ℕ → Outcome
branches core size taken imm = if taken then jumps core size 0 (add core.pc imm) else retires (next core size)

-- the address of a load or a store (Unprivileged ISA 2.6)
abbrev pub address : Core → Instr → ℕ
address core i = add (reg core i.rs1) i.imm

-- a load, or an exception where its address is not divisible by its width (Unprivileged ISA 2.6)
abbrev pub loads : Core → Instr → ℕ → ℕ → Shape → Effect
loads core i size width shape =
    if address core i % width == 0 then
    Load (address core i) width (λ answer. retires (finish core size i.rd (shaped shape answer)))
    else Done (traps core load_address_misaligned (address core i))

-- a store of the lower bytes of a register, or an exception where its address is not divisible by its width
-- (Unprivileged ISA 2.6)
abbrev pub stores : Core → Instr → ℕ → ℕ → Effect
stores core i size width =
    if address core i % width == 0 then
    Store (address core i) width (reg core i.rs2 % 256 ^ width) (retires (next core size))
    else Done (traps core store_address_misaligned (address core i))

-- an access of a CSR, or an exception where it is illegal, which changes nothing else (Unprivileged ISA 9.1, Privileged
-- ISA 2.1)
abbrev pub changes : CsrChange → ℕ → Core → Instr → ℕ → ℕ → Lines → Outcome
changes change operand core i size word lines =
    unwrap_or (accessed change operand core i size lines) (traps core illegal_instruction word)

-- the comparisons of two registers: as equal, by their signed and by their unsigned numbers (Unprivileged ISA 2.5)
abbrev pub equal : Core → Instr → Bool
equal core i = reg core i.rs1 == reg core i.rs2

abbrev pub below : Core → Instr → Bool
below core i = int_lt (signed (reg core i.rs1)) (signed (reg core i.rs2))

abbrev pub below_unsigned : Core → Instr → Bool
below_unsigned core i = nat_lt (reg core i.rs1) (reg core i.rs2)

-- what each instruction does, by its size in bytes and its word
unfoldable pub effect_by : Op → Core → Instr → ℕ → ℕ → Lines → Effect
-- upper immediates (2.4)
effect_by Lui core i size word lines = Done (retires (finish core size i.rd i.imm))
effect_by Auipc core i size word lines = Done (retires (finish core size i.rd (add core.pc i.imm)))
-- unconditional jumps; JALR sets the lowest bit of its target to zero (2.5)
effect_by Jal core i size word lines = Done (jumps core size i.rd (add core.pc i.imm))
effect_by Jalr core i size word lines = Done (jumps core size i.rd (add (reg core i.rs1) i.imm / 2 * 2))
-- conditional branches (2.5)
effect_by Beq core i size word lines = Done (branches core size (equal core i) i.imm)
effect_by Bne core i size word lines = Done (branches core size (not (equal core i)) i.imm)
effect_by Blt core i size word lines = Done (branches core size (below core i) i.imm)
effect_by Bge core i size word lines = Done (branches core size (not (below core i)) i.imm)
effect_by Bltu core i size word lines = Done (branches core size (below_unsigned core i) i.imm)
effect_by Bgeu core i size word lines = Done (branches core size (not (below_unsigned core i)) i.imm)
-- loads and stores (2.6)
effect_by Lb core i size word lines = loads core i size 1 SignedByte
effect_by Lh core i size word lines = loads core i size 2 SignedHalf
effect_by Lw core i size word lines = loads core i size 4 Unsigned
effect_by Lbu core i size word lines = loads core i size 1 Unsigned
effect_by Lhu core i size word lines = loads core i size 2 Unsigned
effect_by Sb core i size word lines = stores core i size 1
effect_by Sh core i size word lines = stores core i size 2
effect_by Sw core i size word lines = stores core i size 4
-- a register and an immediate (2.4)
effect_by Addi core i size word lines = with_immediate add core i size
effect_by Slti core i size word lines = with_immediate less core i size
effect_by Sltiu core i size word lines = with_immediate less_unsigned core i size
effect_by Xori core i size word lines = with_immediate bit_xor core i size
effect_by Ori core i size word lines = with_immediate bit_or core i size
effect_by Andi core i size word lines = with_immediate bit_and core i size
effect_by Slli core i size word lines = with_immediate shift_left core i size
effect_by Srli core i size word lines = with_immediate shift_right core i size
effect_by Srai core i size word lines = with_immediate shift_right_signed core i size
-- two registers (2.4)
effect_by Add core i size word lines = with_registers add core i size
effect_by Sub core i size word lines = with_registers sub core i size
effect_by Sll core i size word lines = with_registers shift_left core i size
effect_by Slt core i size word lines = with_registers less core i size
effect_by Sltu core i size word lines = with_registers less_unsigned core i size
effect_by Xor core i size word lines = with_registers bit_xor core i size
effect_by Srl core i size word lines = with_registers shift_right core i size
effect_by Sra core i size word lines = with_registers shift_right_signed core i size
effect_by Or core i size word lines = with_registers bit_or core i size
effect_by And core i size word lines = with_registers bit_and core i size
-- fences, which order nothing here: each access is done before the next instruction (2.7, chapter 3)
effect_by Fence core i size word lines = Done (retires (next core size))
effect_by FenceI core i size word lines = Done (retires (next core size))
-- environment call and breakpoint (2.8)
effect_by Ecall core i size word lines = Done (traps core environment_call 0)
effect_by Ebreak core i size word lines = Done (traps core breakpoint core.pc)
-- control and status registers; the operand is a register, or the number in its place (9.1)
effect_by Csrrw core i size word lines = Done (changes Write (reg core i.rs1) core i size word lines)
effect_by Csrrs core i size word lines = Done (changes Set (reg core i.rs1) core i size word lines)
effect_by Csrrc core i size word lines = Done (changes Clear (reg core i.rs1) core i size word lines)
effect_by Csrrwi core i size word lines = Done (changes Write i.rs1 core i size word lines)
effect_by Csrrsi core i size word lines = Done (changes Set i.rs1 core i size word lines)
effect_by Csrrci core i size word lines = Done (changes Clear i.rs1 core i size word lines)
-- products and quotients (7.1, 7.2)
effect_by Mul core i size word lines = with_registers product core i size
effect_by Mulh core i size word lines = with_registers upper_signed core i size
effect_by Mulhsu core i size word lines = with_registers upper_mixed core i size
effect_by Mulhu core i size word lines = with_registers upper_unsigned core i size
effect_by Div core i size word lines = with_registers quotient core i size
effect_by Divu core i size word lines = with_registers quotient_unsigned core i size
effect_by Rem core i size word lines = with_registers remainder core i size
effect_by Remu core i size word lines = with_registers remainder_unsigned core i size
-- return from a trap, and wait for an interrupt (Privileged ISA 3.3.2, 3.3.3)
effect_by Mret core i size word lines = Done (retires (leave core))
effect_by Wfi core i size word lines = Done (retires (next (record core { waiting = true }) size))

-- what a slot does by what was fetched: an instruction, or an exception where nothing is at an address or what is there
-- is no instruction (Privileged ISA 3.1.15, 3.1.16)
unfoldable pub effect : Core → Fetched → Lines → Effect
effect core (Fault at) lines = Done (traps core instruction_access_fault at)
effect core (Bad word) lines = Done (traps core illegal_instruction word)
effect core (Good i size word) lines = effect_by i.op core i size word lines

-- what a word is: an instruction of four bytes, or none
abbrev pub of_word : ℕ → Fetched
of_word word = option_map_or (λ i. Good i 4 word) (means word) (Bad word)

-- what a fetch of the word at an address has found
abbrev pub found_at : ℕ → Option ℕ → Fetched
found_at at None = Fault at
found_at at (Some word) = of_word word

-- what a slot does by what the fetch of its word answers
unfoldable pub effect_of_fetch : Core → Option ℕ → Lines → Effect
effect_of_fetch core fetched lines = effect core (found_at core.pc fetched) lines

-- whether an effect asks the bus for a load or a store, which may be refused
abbrev pub AsksBus : Effect → Type 0
AsksBus (Done outcome) = ⊥
AsksBus (Load at width complete) = Unit {0}
AsksBus (Store at width value outcome) = Unit {0}

-- the outcome of an effect, where a load gives these answers
abbrev pub outcome_with : (ℕ → ℕ → ℕ) → Effect → Outcome
outcome_with answer (Done outcome) = outcome
outcome_with answer (Load at width complete) = complete (answer at width)
outcome_with answer (Store at width value outcome) = outcome

-- the outcome of an effect on a bus, whose loads give these answers
abbrev pub outcome_on : {B : Type 0} → (B → ℕ → ℕ → ℕ) → B → Effect → Outcome
outcome_on answer bus effect = outcome_with (answer bus) effect

-- the core at the end of the slot
abbrev pub core_after : {B : Type 0} → (B → ℕ → ℕ → ℕ) → B → Effect → Core
core_after answer bus effect = counted (outcome_on answer bus effect)

-- the bus after an effect, where these are the buses after a load and after a store
abbrev pub bus_after : {B : Type 0} → (B → ℕ → ℕ → B) → (B → ℕ → ℕ → ℕ → B) → B → Effect → B
bus_after loaded stored bus (Done outcome) = bus
bus_after loaded stored bus (Load at width complete) = loaded bus at width
bus_after loaded stored bus (Store at width value outcome) = stored bus at width value
