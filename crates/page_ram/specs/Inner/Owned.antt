-- What a `MaybeBox` owns, and what a `&` to it lends.
use Rattle.std.specs.Prelude.{ℕ, zero, Option, Some, None}
use base.Fml.{Lft, Fml, ftrue, ffalse, fsep, feq}
use denote.RattleType.{RattleType}
use denote.RawPtr.{Ptr, block_ptr, null_ptr}
use denote.Sharing.{nothing, said, beside}
use denote.Struct.Lending.{lent_at}
use Rattle.std.specs.Box.Ownership.{box_owns}
use Rattle.std.specs.contracts.impls.GlobalAllocator.TheImpl.{ghosts}
use Rattle.std.specs.declared.alloc.Global.{Global}
use Rattle.std.specs.declared.boxed.Box.{Box}

-- the value in a box, if there is one
abbrev pub boxed_value : {X : Type 0} → Option (Box X Global) → Option X
boxed_value None = None
boxed_value (Some b) = Some b.value

module _ (R : RattleType) (heap : Global) where
  -- nothing at null; else the value, the right to free its block, and that the pointer is the block's start
  abbrev pub maybe_box_owns : Ptr → Option R.Denot → Fml
  maybe_box_owns null_ptr None = ftrue
  maybe_box_owns null_ptr (Some x) = ffalse
  maybe_box_owns (block_ptr b o) None = ffalse
  maybe_box_owns (block_ptr b o) (Some x) =
      fsep (feq ℕ o zero) (box_owns (ghosts.dealloc_token heap) R (block_ptr b o) x)

module _ (R : RattleType) where
  -- nothing at null; else a `&` to the value, and that the pointer is the block's start
  abbrev pub maybe_box_shares : Ptr → Option R.Denot → Lft → Fml
  maybe_box_shares null_ptr None = nothing
  maybe_box_shares null_ptr (Some x) = said ffalse
  maybe_box_shares (block_ptr b o) None = said ffalse
  maybe_box_shares (block_ptr b o) (Some x) = beside (said (feq ℕ o zero)) (lent_at R (block_ptr b o) x)
