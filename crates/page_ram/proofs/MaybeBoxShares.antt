-- A `&` to what a place owns is made where one to its value is. Assumes `Logic`.
use Rattle.std.proofs.Common.{ℕ, zero}
use Rattle.std.specs.Prelude.{Option, Some, None}
use mir.Raw.{raw}
use seplogic.Ra.Ura.{Ura}
use base.Fraction.{full_share}
use base.Fml.{Lft, Incl, ftrue, ffalse, feq}
use types.Logic.{Logic}
use denote.RattleType.{RattleType, RowLaws}
use denote.Memory.{lone}
use denote.Param.Laws.{Laws}
use denote.RawPtr.{Ptr, block_ptr, null_ptr, lies_at}
use denote.Sharing.{ShrLaws, said}
use denote.SharingLaws.{beside_shr_laws, nothing_shr_laws, said_shr_laws}
use denote.Shares.{Shares-less}
use denote.Struct.Lending.{lent_at, lent_at_shr_laws, Lends, Lends-both, Lends-first, Lends-lies, Lends-nothing}
use denote.Struct.Lending.{Lends-said, Lends-false}
use Rattle.std.specs.Box.Ownership.{box_owns}
use Rattle.std.specs.declared.alloc.Global.{Global}
use Rattle.std.specs.contracts.impls.GlobalAllocator.TheImpl.{ghosts}
use Rattle.page_ram.specs.Inner.Owned.{maybe_box_owns, maybe_box_shares}

module _ (R : RattleType) (L : RowLaws R) where
  pub maybe_box_shares_laws : (p : Ptr) (h : Option R.Denot) → ShrLaws (maybe_box_shares R p h)
  maybe_box_shares_laws null_ptr None = nothing_shr_laws
  maybe_box_shares_laws null_ptr (Some x) = said_shr_laws ffalse tt
  maybe_box_shares_laws (block_ptr b o) None = said_shr_laws ffalse tt
  maybe_box_shares_laws (block_ptr b o) (Some x) = beside_shr_laws _ _ (said_shr_laws (feq ℕ o zero) tt)
      (lent_at_shr_laws R L (block_ptr b o) x)

module _ {M : Type 1} {𝓤 : Ura M} (𝓛 : Logic 𝓤) (l : Lft) (R : RattleType) (L : Laws R) (inc : Incl l R.lives)
    (heap : Global) where
  pub Lends-maybe_box : (p : Ptr) (h : Option R.Denot) → Lends 𝓛 (maybe_box_owns R heap p h) (maybe_box_shares R p h) l
  Lends-maybe_box null_ptr None = Lends-nothing 𝓛 ftrue l
  Lends-maybe_box null_ptr (Some x) = Lends-false 𝓛 (said ffalse) l
  Lends-maybe_box (block_ptr b o) None = Lends-false 𝓛 (said ffalse) l
  Lends-maybe_box (block_ptr b o) (Some x) =
      Lends-both 𝓛 (feq ℕ o zero) (box_owns (ghosts.dealloc_token heap) R (block_ptr b o) x) (said (feq ℕ o zero))
      (lent_at R (block_ptr b o) x) l (Lends-said 𝓛 (feq ℕ o zero) tt l)
      (Lends-first 𝓛 (lies_at R full_share (block_ptr b o) x) (ghosts.dealloc_token heap (raw (lone R.mir))
      (block_ptr b o)) (lent_at R (block_ptr b o) x) l
      (Lends-lies 𝓛 R l (block_ptr b o) x (Shares-less 𝓛 R R.lives l inc (L.shares 𝓛) x)))
