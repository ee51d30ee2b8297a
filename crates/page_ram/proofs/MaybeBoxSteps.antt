-- A place's fields, and what it owns by cases. Assumes `Logic`.
use Rattle.std.proofs.Common.{◌≡◌, ℕ, List, [], ◌∷◌, ◌++◌, refl, sym, ap, ◌∙◌, subst, lit<, ◌<◌, ◌^◌}
use Rattle.std.specs.Prelude.{Option, Some, None, IsSome}
use seplogic.Ra.Ura.{Ura}
use mir.Syntax.{Ty}
use mir.Val.{Val, vstruct, vcons, vnil, of_list}
use base.Fraction.{full_share}
use mir.Raw.{raw}
use base.Logic.{ent, sep, never_e}
use base.Fml.{Lft, Fml, ftrue, fsep}
use types.Logic.{Logic, sem}
use types.Match.{live}
use types.Kit.{Goal, Seq, Item, ‵, given, use1, learn, ◌$◌, ◌∵◌, !, qed, move, drop, fsplit, fsplit3, fjoin, fpick}
use types.Kit.{fpack, feq_l, feq_i, rewrite, done}
use denote.RattleType.{RattleType}
use denote.Memory.{cell_at, part_at, part_of, mem, lone}
use denote.Laws.{Is, Makes}
use denote.Param.{layout}
use denote.Opens.{Opens}
use denote.Exit.{no, Last, left}
use denote.Param.Mute.{blank}
use lib.Dec.{T as T¹}
use denote.Copied.{Struct-Copied}
use denote.RawPtr.{rawptr_pure, Ptr, block_ptr, null_ptr, ptr_val, Testable}
use denote.Struct.Laws as LL
use denote.Struct.Struct.{Struct, Struct-Makes}
use denote.Struct.Owning.{shape, to}
use denote.Struct.Lending.{lent_at}
use Rattle.std.specs.Box.Ownership.{box_owns}
use Rattle.std.specs.declared.alloc.Global.{Global}
use Rattle.std.specs.declared.boxed.Box.{Box}
use Rattle.std.specs.contracts.boxed.Box as boxed
use Rattle.std.specs.contracts.option.Option as option
use Rattle.std.specs.contracts.impls.GlobalAllocator.TheImpl.{ghosts}
use Rattle.std.specs.contracts.alloc.Global as heap
use Rattle.std.proofs.alloc.Global.TheLaws as heap_laws
use Rattle.std.proofs.Handle.{heap_val}
use Rattle.std.proofs.cell.Inside.{Good}
use Rattle.page_ram.specs.Inner.Owned.{maybe_box_owns, maybe_box_shares}
use Rattle.page_ram.specs.Inner.Lent.{with_held}
use Rattle.page_ram.specs.contracts.maybe_box.MaybeBox as maybe_box

-- the machine value of a place
abbrev pub word : Ptr → Val
word p = vstruct (vcons (ptr_val p) (vcons heap_val vnil))

pub some_not_none : {X : Type 0} (h : Option X) → IsSome h → h ≡ None → ⊥
some_not_none None is none = cc
some_not_none (Some x) is none = cc

pub testable : (b o : ℕ) → o ≡ 0 → Testable (block_ptr b o)
testable b o e = subst (λ (k : ℕ). k < 2 ^ 63) (sym e) (lit< tt)

pub handle_makes : {M : Type 1} {𝓤 : Ura M} (𝓛 : Logic 𝓤) → Makes 𝓛 heap.the_row (Is heap.the_row)
handle_makes 𝓛 = LL.makes heap.the_type heap_laws.the_plain 𝓛

pub handle_good : Good (layout heap.the_row) heap_val
handle_good = (tt, (((tt, tt), tt)))

abbrev pub word_ty : RattleType → Ty
word_ty R = layout (maybe_box.the_row R)

pub null_good : (R : RattleType) → Good (word_ty R) (word null_ptr)
null_good R = (tt, (record { fits = lit< tt }, (((tt, tt), tt), tt)))

pub block_good : (R : RattleType) (b o : ℕ) → Good (word_ty R) (word (block_ptr b o))
block_good R b o = (tt, (tt, (((tt, tt), tt), tt)))

-- an `Option` of a box that is used up leaves nothing
pub boxed_blank : (R : RattleType)
    → let T = option.the_row (boxed.the_row R heap.the_row ghosts) in (v : T.Denot) (f : Last (T.exit no) v)
    → T¹ (blank (left (T.exit no) v f))
boxed_blank R None f = tt
boxed_blank R (Some b) f = tt

module _ (R : RattleType) where
  abbrev pub Data : RattleType
  Data = Struct (shape (maybe_box.the_type R))

  pub told : (d : (maybe_box.the_row R).Denot) (vs : List Val) → Is Data (to (maybe_box.the_type R) d) vs
      → vs ≡ word d.at ∷ []
  told d vs is =
      is.1.0 ∙ (λ i. vstruct (of_list (is.1.1.0 i ++ (LL.tuple_Tells heap.the_type heap_laws.the_laws _ _ is.1.1.1.0
      i ++ []))) ∷ [])

  -- the handle's values, which any place has
  pub handle_is : (d : (maybe_box.the_row R).Denot) (vs : List Val) → Is Data (to (maybe_box.the_type R) d) vs
      → Is heap.the_row d.alloc (heap_val ∷ [])
  handle_is d vs is = subst (λ (ws : List Val). Is heap.the_row d.alloc ws)
      (LL.tuple_Tells heap.the_type heap_laws.the_laws _ _ is.1.1.1.0) is.1.1.1.0

  -- what the fields of a place own, which is made of nothing
  pub data_makes : {M : Type 1} {𝓤 : Ura M} (𝓛 : Logic 𝓤) → Makes 𝓛 Data (Is Data)
  data_makes 𝓛 = Struct-Makes 𝓛 (shape (maybe_box.the_type R)) (rawptr_pure, (heap_laws.the_field_plain, tt))

  pub data_is : (d : (maybe_box.the_row R).Denot) → Is heap.the_row d.alloc (heap_val ∷ [])
      → Is Data (to (maybe_box.the_type R) d) (word d.at ∷ [])
  data_is d is = ((ptr_val d.at ∷ [], (heap_val ∷ [], tt)), (refl, (refl, (is, tt))))

  pub opened : {M : Type 1} {𝓤 : Ura M} (𝓛 : Logic 𝓤) → Opens 𝓛 Data
  opened {M} {𝓤 = 𝓤} 𝓛 = (Struct-Copied 𝓛 (shape (maybe_box.the_type R)) (refl, (refl, tt))
      (LL.RawPtr-copy.copied M 𝓤 𝓛, (heap_laws.the_field_copy.copied M 𝓤 𝓛, tt))).opens

  module _ {M : Type 1} {𝓤 : Ura M} {𝓛 : Logic 𝓤} {K : Type 0} {Γ : List (Item 𝓤)} {G : Goal 𝓤 𝓛.H} where
    pub either_lent : K → {κ : Lft} (p : Ptr) (h : Option R.Denot) → (p ≡ null_ptr → h ≡ None → Seq K 𝓛 Γ G)
        → ((b o : ℕ) (x : R.Denot) → p ≡ block_ptr b o → h ≡ Some x → Testable (block_ptr b o)
        → Seq K 𝓛 (‵ (lent_at R (block_ptr b o) x κ) ∷ Γ) G)
        → Seq K 𝓛 (‵ (maybe_box_shares R p h κ) ∷ Γ) G
    either_lent t null_ptr None none one = drop t $ none refl refl
    either_lent t null_ptr (Some x) none one = use1 𝓛 (given ⊥ (‵ ftrue)) (never_e 𝓤 _) $ learn t (λ z. absurd z)
    either_lent t (block_ptr b o) None none one = use1 𝓛 (given ⊥ (‵ ftrue)) (never_e 𝓤 _) $ learn t (λ z. absurd z)
    either_lent t (block_ptr b o) (Some x) none one = fsplit t $ feq_l t (λ e. one b o x refl refl (testable b o e))

    -- an `Option` of a box, by cases
    pub either_boxed : K → (v : Option (Box R.Denot Global)) (vs : List Val) → (v ≡ None → vs ≡ live 0 vnil ∷ []
        → Seq K 𝓛 Γ G)
        → ((b : Box R.Denot Global) (bs : List Val) → v ≡ Some b → vs ≡ live 1 (of_list (bs ++ [])) ∷ []
        → Seq K 𝓛 (‵ ((boxed.the_row R heap.the_row ghosts).own_val b bs) ∷ Γ) G)
        → Seq K 𝓛 (‵ ((option.the_row (boxed.the_row R heap.the_row ghosts)).own_val v vs) ∷ Γ) G
    either_boxed t None vs none one = fpick t (λ us. fsplit t $ feq_l t (λ e. fpick t (λ vss. fsplit t $
        feq_l t (λ e'. drop t $ none refl (e ∙ ap (λ (ws : List Val). live 0 (of_list ws) ∷ []) e')))))
    either_boxed t (Some b) vs none one =
        fpick t (λ us. fsplit t $ feq_l t (λ e. fpick t (λ vss. fsplit t $ feq_l t (λ e'. fsplit t $
        move t (1 ∷ []) $ drop t $ one b vss.0 refl (e ∙ ap (λ (ws : List Val). live 1 (of_list ws) ∷ []) e')))))

    pub either_owned : K → (a : Global) (p : Ptr) (h : Option R.Denot) → (p ≡ null_ptr → h ≡ None → Seq K 𝓛 Γ G)
        → ((b o : ℕ) (x : R.Denot) → p ≡ block_ptr b o → h ≡ Some x → o ≡ 0
        → Seq K 𝓛 (‵ (box_owns (ghosts.dealloc_token a) R (block_ptr b o) x) ∷ Γ) G)
        → Seq K 𝓛 (‵ (maybe_box_owns R a p h) ∷ Γ) G
    either_owned t a null_ptr None none one = drop t $ none refl refl
    either_owned t a null_ptr (Some x) none one = use1 𝓛 (given ⊥ (‵ ftrue)) (never_e 𝓤 _) $ learn t (λ z. absurd z)
    either_owned t a (block_ptr b o) None none one = use1 𝓛 (given ⊥ (‵ ftrue)) (never_e 𝓤 _) $ learn t (λ z. absurd z)
    either_owned t a (block_ptr b o) (Some x) none one = fsplit t $ feq_l t (λ e. one b o x refl refl e)

  module _ {M : Type 1} {𝓤 : Ura M} (𝓛 : Logic 𝓤) (d : (maybe_box.the_row R).Denot) (us : List Val)
      (pb po rb ro : ℕ) where
    -- all of a place but the value that it points to
    abbrev pub Rest : Fml
    Rest = fsep (ghosts.dealloc_token d.alloc (raw (lone R.mir)) (block_ptr pb po))
        (fsep (Data.own_val (to (maybe_box.the_type R) d) us) (cell_at full_share (maybe_box.the_row R).mir us rb ro))

    pub back : d.at ≡ block_ptr pb po → po ≡ 0 → (w : R.Denot)
        → ent 𝓤 (sep 𝓤 (sem 𝓛 ((mem R).own_at w pb po)) (sem 𝓛 Rest))
        (sem 𝓛 ((mem (maybe_box.the_row R)).own_at (with_held d (Some w)) rb ro))
    unfolding part_of
    back is e w =
        qed 𝓛 (‵ (part_at R full_share w pb po) ∷ ‵ Rest ∷ []) ∵ move ! (1 ∷ []) $ fsplit3 ! $ move ! (3 ∷ 0 ∷ []) $
        fjoin ! $ feq_i ! ℕ po 0 e $ fjoin ! $
        rewrite ! 0 (λ (p : Ptr). ‵ (maybe_box_owns R d.alloc p (Some w))) (sym is) refl $ move ! (1 ∷ 0 ∷ []) $
        fjoin ! $ move ! (1 ∷ 0 ∷ []) $ fjoin ! $
        fpack ! (List Val) (λ vs. fsep (cell_at full_share (maybe_box.the_row R).mir vs rb ro)
        ((maybe_box.the_row R).own_val (with_held d (Some w)) vs)) us $ done !
