-- What an instruction does on a hart with compressed instructions, and on the same hart without them.
use Rattle.std.specs.Prelude.{◌≡◌, ◌≢◌, ℕ, ◌*◌, ◌/◌, ◌%◌, not, Bool, true, false, if◌then◌else◌, Option, Some, None}
use Rattle.std.specs.Prelude.{IfSome}
use Rattle.rv_decode.specs.declared.instruction.Op.{Op}
use Rattle.rv_decode.specs.declared.instruction.Op.TheVariants.{Jal, Jalr, Beq, Bne, Blt, Bge, Bltu, Bgeu}
use Rattle.rv_decode.specs.declared.instruction.Op.TheVariants.{Csrrw, Csrrs, Csrrc, Csrrwi, Csrrsi, Csrrci}
use Rattle.rv_decode.specs.declared.instruction.Instr.{Instr}
use Rattle.rv_hart.specs.declared.numbers.TheConstants.{MISA, MEPC}
use Rattle.rv_hart.specs.Core.{Core, reg}
use Rattle.rv_exec.specs.Word.{add}
use Rattle.rv_exec.specs.Outcome.{Outcome}
use Rattle.rv_exec.specs.Effect.{Effect, Done, Load, Store, below, below_unsigned, equal}

-- the core with compressed instructions, or without them
abbrev pub with_c : Core → Bool → Core
with_c core on = record core { letters = record core.letters { c = on } }

-- where a jump or a taken branch goes
abbrev pub target_by : Op → Core → Instr → Option ℕ
target_by Jal core i = Some (add core.pc i.imm)
target_by Jalr core i = Some (add (reg core i.rs1) i.imm / 2 * 2)
target_by Beq core i = if equal core i then Some (add core.pc i.imm) else None
target_by Bne core i = if not (equal core i) then Some (add core.pc i.imm) else None
target_by Blt core i = if below core i then Some (add core.pc i.imm) else None
target_by Bge core i = if not (below core i) then Some (add core.pc i.imm) else None
target_by Bltu core i = if below_unsigned core i then Some (add core.pc i.imm) else None
target_by Bgeu core i = if not (below_unsigned core i) then Some (add core.pc i.imm) else None
target_by _ core i = None

-- whether an instruction accesses a CSR
abbrev pub accesses_csr : Op → Bool
accesses_csr Csrrw = true
accesses_csr Csrrs = true
accesses_csr Csrrc = true
accesses_csr Csrrwi = true
accesses_csr Csrrsi = true
accesses_csr Csrrci = true
accesses_csr _ = false

-- an instruction that jumps, if at all, to an address divisible by 4, and is no access of misa or mepc, whose bits say
-- whether there are compressed instructions
pub record IsPlain (core : Core) (i : Instr) : Type 0 where
  pub target : IfSome (target_by i.op core i) (λ target. target % 4 ≡ 0)
  pub misa : accesses_csr i.op ≡ true → i.imm ≢ MISA
  pub mepc : accesses_csr i.op ≡ true → i.imm ≢ MEPC

-- the outcome, on a core with compressed instructions
abbrev pub outcome_with_c : Outcome → Outcome
outcome_with_c outcome = record outcome { core = with_c outcome.core true }

-- two effects that differ in nothing but in that the core of the second has compressed instructions
abbrev pub IsSame : Effect → Effect → Type 0
IsSame (Done outcome) other = other ≡ Done (outcome_with_c outcome)
IsSame (Store at width value outcome) other = other ≡ Store at width value (outcome_with_c outcome)
IsSame (Load at width complete) (Load at' width' complete') =
    (at' ≡ at) × (width' ≡ width) × ((answer : ℕ) → complete' answer ≡ outcome_with_c (complete answer))
IsSame (Load at width complete) _ = ⊥
