use Rattle.std.specs.Prelude.{Option, Some, None}
use mir.Raw.{raw}
use base.Shift.{Keyless}
use denote.Memory.{lone}
use denote.RattleType.{RattleType}
use denote.RawPtr.{Ptr, block_ptr, null_ptr}
use denote.Param.Send.{IsSend, owning_send, struct_send, sendable, part_keyless, Quiet}
use denote.Builtin.{RawPtr}
use denote.Struct.Struct.{exits_of}
use denote.Struct.Owning.{shape, fields, to}
use Rattle.std.proofs.Crossing.{frees}
use Rattle.std.specs.declared.alloc.Global.{Global}
use base.Fraction.{full_share}
use denote.Exit.{Exit, unchanged, leaves, hidden, under}
use Rattle.std.proofs.alloc.Global.TheSendSync as heap
use Rattle.page_ram.specs.Inner.Owned.{maybe_box_owns}
use Rattle.page_ram.specs.contracts.maybe_box.MaybeBox.{the_row, the_type}

maybe_box_keyless : (R : RattleType) → IsSend R → (a : Global) (p : Ptr) (h : Option R.Denot)
    → Keyless (maybe_box_owns R a p h)
maybe_box_keyless R s a null_ptr None = tt
maybe_box_keyless R s a null_ptr (Some x) = tt
maybe_box_keyless R s a (block_ptr b o) None = tt
maybe_box_keyless R s a (block_ptr b o) (Some x) =
    (tt, (part_keyless R s full_share x b o, frees.frees a (raw (lone R.mir)) (block_ptr b o)))

quiet : {D X : Type 0} (to : D → X) (e : Exit X) → Quiet e → Quiet (hidden (under to e))
quiet to unchanged q = λ x w. tt
quiet to (leaves L l S s r₀) q = λ d. q (to d)

pub send : (T : RattleType) → IsSend T → IsSend (the_row T)
send T s = let O = the_type T in let ps : IsSend RawPtr = search sendable in
    owning_send O (ps, (heap.the_field_send, tt)) (λ d. maybe_box_keyless T s d.alloc d.at d.held)
    (λ k. quiet (to O) (exits_of k (fields O)) ((struct_send (shape O) (ps, (heap.the_field_send, tt))).leaving k))
