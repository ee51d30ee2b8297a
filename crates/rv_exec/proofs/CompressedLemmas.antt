-- Each instruction does the same with compressed instructions and without.
use Rattle.std.proofs.Common.{◌≡◌, ◌≢◌, ℕ, ◌%◌, ◌==◌, Bool, true, false, arith, inl, inr, refl, ap}
use Rattle.std.specs.Prelude.{Option, Some, None, IfSome, if◌then◌else◌, option_map, option_and_then, unwrap_or}
use Rattle.std.proofs.lemmas.Bool.{cases_Bool, eq-eqb}
use Rattle.std.proofs.lemmas.Grind.{common_steps}
use Rattle.rv_decode.specs.declared.instruction.Op.{Op}
use Rattle.rv_decode.specs.declared.instruction.Op.TheVariants.{Jal, Jalr, Beq, Bne, Blt, Bge, Bltu, Bgeu, Lb, Lh, Lw}
use Rattle.rv_decode.specs.declared.instruction.Op.TheVariants.{Lbu, Lhu, Sb, Sh, Sw, Csrrw, Csrrs, Csrrc, Csrrwi}
use Rattle.rv_decode.specs.declared.instruction.Op.TheVariants.{Csrrsi, Csrrci}
use Rattle.rv_decode.specs.declared.instruction.Instr.{Instr}
use Rattle.rv_hart.specs.declared.numbers.TheConstants.{MISA, MEPC}
use Rattle.rv_hart.specs.declared.csr.Lines.{Lines}
use Rattle.rv_hart.specs.declared.numbers.Counter.{Counter}
use Rattle.rv_hart.specs.Cause.{illegal_instruction}
use Rattle.rv_hart.specs.Core.{Core, reg, next, finish, jump}
use Rattle.rv_hart.specs.Trap as trap
use Rattle.rv_hart.specs.Trap.{enter, leave}
use Rattle.rv_hart.specs.Csr.{csr_read, csr_written}
use Rattle.rv_exec.specs.declared.access.Shape.{Shape}
use Rattle.rv_exec.specs.declared.access.Shape.TheVariants.{Unsigned, SignedByte, SignedHalf}
use Rattle.rv_exec.specs.declared.csr.CsrChange.{CsrChange}
use Rattle.rv_exec.specs.declared.csr.CsrChange.TheVariants.{Write, Set, Clear}
use Rattle.rv_exec.specs.declared.ending.Ending.TheVariants.{Retired}
use Rattle.rv_exec.specs.declared.fetched.Fetched.TheVariants.{Good}
use Rattle.rv_exec.specs.Word.{add}
use Rattle.rv_exec.specs.Outcome.{Outcome, outcome, traps}
use Rattle.rv_exec.specs.Csr.{after_write, changed, old_value, reads, writes}
use Rattle.rv_exec.specs.Compressed.{IsPlain, IsSame, accesses_csr, outcome_with_c, with_c, target_by}
use Rattle.rv_exec.specs.Effect.{Done, address, branches, changes, effect, effect_by, jumps, loads, stores}

-- a jump to an address divisible by 4
same_jump :
    (core : Core) (size rd target : ℕ) → target % 4 ≡ 0 →
    jumps (with_c core true) size rd target ≡ outcome_with_c (jumps (with_c core false) size rd target)
unfolding jump
same_jump core size rd target aligned = rw (eq-eqb (target % 4) 0 aligned) refl

same_branch :
    (core : Core) (size : ℕ) (taken : Bool) (imm : ℕ) →
    IfSome (if taken then Some (add core.pc imm) else None) (λ target. target % 4 ≡ 0) →
    branches (with_c core true) size taken imm ≡ outcome_with_c (branches (with_c core false) size taken imm)
unfolding next
same_branch core size true imm aligned = same_jump core size 0 (add core.pc imm) aligned
same_branch core size false imm aligned = refl

same_load :
    (core : Core) (i : Instr) (size width : ℕ) (shape : Shape) →
    IsSame (loads (with_c core false) i size width shape) (loads (with_c core true) i size width shape)
unfolding finish enter trap.target
same_load core i size width shape =
    elim (cases_Bool (address core i % width == 0)) [
      | inl on ↦ rw on (refl, refl, λ answer. refl)
      | inr off ↦ rw off refl
    ]

same_store :
    (core : Core) (i : Instr) (size width : ℕ) →
    IsSame (stores (with_c core false) i size width) (stores (with_c core true) i size width)
unfolding next enter trap.target
same_store core i size width =
    elim (cases_Bool (address core i % width == 0)) [
      | inl on ↦ rw on refl
      | inr off ↦ rw off refl
    ]

-- a CSR other than misa reads the same, and one other than mepc is written the same
same_read :
    (core : Core) (lines : Lines) (number : ℕ) → number ≢ MISA →
    csr_read (with_c core true) lines number ≡ csr_read (with_c core false) lines number
unfolding csr_read
same_read core lines number other = grind (arith, common_steps)

same_written :
    (core : Core) (number value : ℕ) → number ≢ MEPC →
    csr_written (with_c core true) number value
    ≡ option_map (λ after. with_c after true) (csr_written (with_c core false) number value)
unfolding csr_written
same_written core number value other = grind (arith, common_steps)

same_old :
    (change : CsrChange) (core : Core) (i : Instr) (lines : Lines) → i.imm ≢ MISA →
    old_value change (with_c core true) i lines ≡ old_value change (with_c core false) i lines
same_old change core i lines other =
    elim (cases_Bool (reads change i)) [
      | inl on ↦ rw on (same_read core lines i.imm other)
      | inr off ↦ rw off refl
    ]

same_after :
    (change : CsrChange) (value : ℕ) (core : Core) (i : Instr) → i.imm ≢ MEPC →
    after_write change value (with_c core true) i
    ≡ option_map (λ after. with_c after true) (after_write change value (with_c core false) i)
same_after change value core i other =
    elim (cases_Bool (writes change i)) [
      | inl on ↦ rw on (same_written core i.imm value other)
      | inr off ↦ rw off refl
    ]

-- what is done with the core after the write, if there is one
same_ending :
    (core : Core) (size rd old word : ℕ) (counter : Option Counter) (written with_written : Option Core) →
    with_written ≡ option_map (λ after. with_c after true) written →
    unwrap_or
    (option_map (λ after. outcome (finish after size rd old) (Retired counter)) with_written)
    (traps (with_c core true) illegal_instruction word)
    ≡ outcome_with_c
    (unwrap_or
    (option_map (λ after. outcome (finish after size rd old) (Retired counter)) written)
    (traps (with_c core false) illegal_instruction word))
unfolding finish enter trap.target
same_ending core size rd old word counter None with_written is = rw is refl
same_ending core size rd old word counter (Some after) with_written is = rw is refl

same_reading :
    (core : Core) (word : ℕ) (a b : ℕ → Option Outcome) (old : Option ℕ) →
    ((value : ℕ) →
    unwrap_or (b value) (traps (with_c core true) illegal_instruction word)
    ≡ outcome_with_c (unwrap_or (a value) (traps (with_c core false) illegal_instruction word))) →
    unwrap_or (option_and_then b old) (traps (with_c core true) illegal_instruction word)
    ≡ outcome_with_c (unwrap_or (option_and_then a old) (traps (with_c core false) illegal_instruction word))
unfolding enter trap.target
same_reading core word a b None each = refl
same_reading core word a b (Some value) each = each value

same_change :
    (change : CsrChange) (operand : ℕ) (core : Core) (i : Instr) (size word : ℕ) (lines : Lines) →
    i.imm ≢ MISA → i.imm ≢ MEPC →
    changes change operand (with_c core true) i size word lines
    ≡ outcome_with_c (changes change operand (with_c core false) i size word lines)
same_change change operand core i size word lines misa mepc =
    rw (same_old change core i lines misa)
    (same_reading core word _ _ (old_value change (with_c core false) i lines)
    (λ old. same_ending core size i.rd old word _ _ _ (same_after change (changed change old operand) core i mepc)))

by_op :
    (op : Op) (core : Core) (i : Instr) (size word : ℕ) (lines : Lines) →
    IfSome (target_by op core i) (λ target. target % 4 ≡ 0) →
    (accesses_csr op ≡ true → i.imm ≢ MISA) → (accesses_csr op ≡ true → i.imm ≢ MEPC) →
    IsSame (effect_by op (with_c core false) i size word lines) (effect_by op (with_c core true) i size word lines)
unfolding effect_by next finish leave enter trap.target
by_op Jal core i size word lines target misa mepc = ap Done (same_jump core size i.rd _ target)
by_op Jalr core i size word lines target misa mepc = ap Done (same_jump core size i.rd _ target)
by_op Beq core i size word lines target misa mepc = ap Done (same_branch core size _ i.imm target)
by_op Bne core i size word lines target misa mepc = ap Done (same_branch core size _ i.imm target)
by_op Blt core i size word lines target misa mepc = ap Done (same_branch core size _ i.imm target)
by_op Bge core i size word lines target misa mepc = ap Done (same_branch core size _ i.imm target)
by_op Bltu core i size word lines target misa mepc = ap Done (same_branch core size _ i.imm target)
by_op Bgeu core i size word lines target misa mepc = ap Done (same_branch core size _ i.imm target)
by_op Lb core i size word lines target misa mepc = same_load core i size 1 SignedByte
by_op Lh core i size word lines target misa mepc = same_load core i size 2 SignedHalf
by_op Lw core i size word lines target misa mepc = same_load core i size 4 Unsigned
by_op Lbu core i size word lines target misa mepc = same_load core i size 1 Unsigned
by_op Lhu core i size word lines target misa mepc = same_load core i size 2 Unsigned
by_op Sb core i size word lines target misa mepc = same_store core i size 1
by_op Sh core i size word lines target misa mepc = same_store core i size 2
by_op Sw core i size word lines target misa mepc = same_store core i size 4
by_op Csrrw core i size word lines target misa mepc =
    ap Done (same_change Write (reg core i.rs1) core i size word lines (misa refl) (mepc refl))
by_op Csrrs core i size word lines target misa mepc =
    ap Done (same_change Set (reg core i.rs1) core i size word lines (misa refl) (mepc refl))
by_op Csrrc core i size word lines target misa mepc =
    ap Done (same_change Clear (reg core i.rs1) core i size word lines (misa refl) (mepc refl))
by_op Csrrwi core i size word lines target misa mepc =
    ap Done (same_change Write i.rs1 core i size word lines (misa refl) (mepc refl))
by_op Csrrsi core i size word lines target misa mepc =
    ap Done (same_change Set i.rs1 core i size word lines (misa refl) (mepc refl))
by_op Csrrci core i size word lines target misa mepc =
    ap Done (same_change Clear i.rs1 core i size word lines (misa refl) (mepc refl))
by_op _ core i size word lines target misa mepc = refl

pub same_effect :
    (core : Core) (i : Instr) (word : ℕ) (lines : Lines) → IsPlain core i →
    IsSame (effect (with_c core false) (Good i 4 word) lines) (effect (with_c core true) (Good i 4 word) lines)
unfolding effect
same_effect core i word lines plain = by_op i.op core i 4 word lines plain.target plain.misa plain.mepc
