-- The stores alone store, and what they store is aligned.
use Rattle.std.proofs.Common.{◌≡◌, ℕ, ◌%◌, ◌==◌, inl, inr, refl}
use Rattle.std.specs.Prelude.{None, option_and_then}
use Rattle.std.proofs.lemmas.Bool.{cases_Bool}
use Rattle.rv_decode.specs.declared.instruction.Op.{Op}
use Rattle.rv_decode.specs.declared.instruction.Op.TheVariants.{Lb, Lh, Lw, Lbu, Lhu, Sb, Sh, Sw}
use Rattle.rv_decode.specs.declared.instruction.Instr.{Instr}
use Rattle.rv_hart.specs.declared.csr.Lines.{Lines}
use Rattle.rv_hart.specs.Core.{Core}
use Rattle.rv_exec.specs.declared.access.Shape.{Shape}
use Rattle.rv_exec.specs.declared.access.Shape.TheVariants.{Unsigned, SignedByte, SignedHalf}
use Rattle.rv_exec.specs.Effect.{address, effect_by, loads, stores}
use Rattle.rv_atomic.specs.Span.{span_of}
use Rattle.rv_atomic.specs.Inner.StoreWidth.{aligned_span, store_width}

loads-span : (core : Core) (i : Instr) (size width : ℕ) (shape : Shape) → None ≡ span_of (loads core i size width shape)
loads-span core i size width shape =
    elim (cases_Bool (address core i % width == 0)) [
      | inl on ↦ rw on refl
      | inr off ↦ rw off refl
    ]

stores-span :
    (core : Core) (i : Instr) (size width : ℕ) →
    aligned_span (address core i) width ≡ span_of (stores core i size width)
stores-span core i size width =
    elim (cases_Bool (address core i % width == 0)) [
      | inl on ↦ rw on refl
      | inr off ↦ rw off refl
    ]

pub span-by :
    (op : Op) (core : Core) (i : Instr) (size word : ℕ) (lines : Lines) →
    option_and_then (aligned_span (address core i)) (store_width op) ≡ span_of (effect_by op core i size word lines)
unfolding effect_by
span-by Lb core i size word lines = loads-span core i size 1 SignedByte
span-by Lh core i size word lines = loads-span core i size 2 SignedHalf
span-by Lw core i size word lines = loads-span core i size 4 Unsigned
span-by Lbu core i size word lines = loads-span core i size 1 Unsigned
span-by Lhu core i size word lines = loads-span core i size 2 Unsigned
span-by Sb core i size word lines = stores-span core i size 1
span-by Sh core i size word lines = stores-span core i size 2
span-by Sw core i size word lines = stores-span core i size 4
span-by _ core i size word lines = refl
