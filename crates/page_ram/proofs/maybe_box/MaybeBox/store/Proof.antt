-- `store` lends the value, and the place follows it.
use Rattle.std.proofs.Common.{◌≡◌, ℕ, List, [], ◌∷◌, refl, sym, ap, ◌∙◌}
use mir.Syntax.{a_type, named}
use mir.Val.{Val, vptr}
use mir.MapTy.{inst_fn}
use base.Fraction.{full_share}
use base.Logic.{SProp, emp, id⊢}
use base.Fml.{Lft, GName, Share, Fml, ftrue, fsep, flft}
use types.Logic.{sem}
use types.Kit.{‵, raw, ◌⊛◌, some, later, at_ret, ◌$◌, ◌∵◌, !, qed, by, move, keep, split, split3, join, pick}
use types.Kit.{fjoin3, fsplit, fsplit3, fjoin, use0, use1, rewrite, await, group}
use types.Run.{stop, fld, hop, addr, of_opd, first, blocks, exec, returns, enter}
use types.ByLocal.{alloc_all, pass_all, free_all, look_at, get, through, sets, sets_last, env}
use types.Part.{sub, whole, look_in}
use contract.Monad.{fact, fact_i}
use contract.Running.{tables}
use contract.BorrowLft.{◌⊑◌}
use denote.Exit.{no}
use denote.RattleType.{RattleType, owns}
use denote.Laws.{Is, shows}
use denote.Signature.{types_at, plain, mut_ref_to}
use denote.Ref.{MutRef, mut_vals, mut_Tells}
use denote.RawPtr.{Ptr, block_ptr}
use denote.Memory.{cell_at}
use denote.Steps.{nothing, opens, peeks, heard}
use denote.Param.{param, layouts}
use denote.Follow.{follows, Part, lends_Part}
use denote.Struct.Owning.{to}
use denote.Triple.Walked.{Stays, stay_dropped, walk_of, Goes-spent_ref}
use Rattle.std.specs.Prelude.{Some, IsSome}
use Rattle.std.proofs.alloc.Shapes.{after}
use Rattle.std.proofs.raw_atomic.Walks.{proved, leaves}
use Rattle.page_ram.specs.Inner.Lent.{with_held}
use Rattle.page_ram.specs.contracts.maybe_box.MaybeBox as maybe_box
use Rattle.page_ram.proofs.MaybeBoxSteps.{word, Data, told, either_owned, some_not_none, Rest, back}
use Rattle.page_ram.specs.contracts.maybe_box.MaybeBox.store.{ended, clauses}
use Rattle.page_ram.specs.contracts.maybe_box.MaybeBox.store.Key.{name as #self}
use Rattle.page_ram.proofs.maybe_box.MaybeBox.store.Statement.{statement}
use Rattle.page_ram.proofs.maybe_box.MaybeBox.store.Code as code

pub store_spec : {M : Type 1} → statement M
store_spec 𝓤 𝓛 𝓜 𝓡 wired X L =
    let H = 𝓛.H in
    let 𝓣 = tables 𝓤 H 𝓜 𝓡 𝓡.env in
    let R : RattleType = param 0 X in
    let En = ended X in
    let inst = layouts (a_type ∷ []) (X, tt) in
    let fn = inst_fn inst code.function in
    let Row : RattleType = maybe_box.the_row R in
    let D : RattleType = Data R in
    let c = clauses X 𝓛 𝓜.mem 𝓡.returns in
    let hs : Stays En.signature.params En.kept = (stay_dropped (mut_ref_to (0 ∷ []) tt (plain (λ _. Row))) no, tt) in
    proved 𝓛 En hs c 𝓜 𝓡 (Goes-spent_ref 𝓛 2 (0 ∷ []) tt (plain (λ _. Row)), tt)
    (#self inst) fn (code.unfolded 𝓤 H 𝓜 𝓡 wired (X, tt))
    (λ κs. (mut_vals, tt)) (λ κs. (mut_Tells (named 0) κs.0 Row, tt)) (λ κs qs bounds a gh are.
    let rb : ℕ = a.0.ref_ptr.0 in
    let ro : ℕ = a.0.ref_ptr.1 in
    let κ : Lft = κs.0 in
    let q : Share = qs.0 in
    let d : Row.Denot = a.0.now in
    let others : Fml = fsep (flft κs.1.0 qs.1.0) ftrue in
    let ds : D.Denot = to (maybe_box.the_type R) d in
    let y : (walk_of 𝓛 En hs c).Ghost = ((κs, qs, bounds, a, (vptr rb ro ∷ [], tt)), gh) in
    let Post : Val → SProp 𝓤 = (walk_of 𝓛 En hs c).post y in
    let Ref : RattleType = MutRef (named 0) κ R in
    let γ : GName = a.0.ghost_name in
    let code_d = Row.coded.code d in
    let F : R.Denot → Row.Denot = λ w. with_held d (Some w) in
    qed 𝓛 (((‵ (flft κ q) ⊛ ‵ others) ⊛ ‵ (owns (types_at En.signature.params κs) a y.0.4)) ∷
    raw (fact 𝓤 (κs.1.0 ⊑ X.lives)) ∷ raw (fact 𝓤 (IsSome d.held)) ∷ []) ∵
    move ! (2 ∷ []) $ heard ! (IsSome d.held) (λ there. keep ! (0 ∷ []) $ split ! $ split ! $ move ! (2 ∷ []) $
    fsplit ! $ fsplit3 ! $ keep ! (1 ∷ 2 ∷ 4 ∷ 5 ∷ []) $
    enter ! 𝓣.C 𝓣.Λ fn (vptr rb ro ∷ []) Post $ alloc_all ! (λ l. pass_all ! refl ((tt, tt), tt) $
    let Ev = env fn.locals l in
    opens ! tt Row rb ro (λ us. move ! (1 ∷ []) $ fsplit ! $
    peeks ! D (Is D) (shows 𝓛 D) ds us (λ so. move ! (1 ∷ []) $ either_owned R ! d.alloc d.at d.held
    -- null: there has to be a value
    (λ _ none. absurd (some_not_none d.held there none))
    -- a block: the value is lent, and the rest of what is owned waits for its end
    (λ pb po x is one e. let ev : us ≡ word (block_ptr pb po) ∷ [] = told R d us so ∙
    ap (λ (r : Ptr). word r ∷ []) is in
    let Left : Fml = Rest R 𝓛 d us pb po rb ro in
    let way = back R 𝓛 d us pb po rb ro is e in
    -- [the value; the right to free it; the fields; the place's cell; the open borrow, in three entries; tokens]
    fsplit ! $ rewrite ! 3 (λ (ws : List Val). ‵ (cell_at full_share Row.mir ws rb ro)) ev refl $
    first ! $ blocks ! $ sets_last ! (addr ! (through ! refl (fld ! refl (hop ! (look_in ! 3 (sub ! 0 refl (whole
    !))) (stop !))))) refl (tt, tt) $
    exec ! 𝓣.C 𝓣.Λ Ev (after 1 fn.body) (at_ret Ev Post) $ sets ! (of_opd ! (get ! refl)) refl (tt, tt) $
    rewrite ! 3 (λ (ws : List Val). ‵ (cell_at full_share Row.mir ws rb ro)) (sym ev) refl $
    move ! (1 ∷ 2 ∷ 3 ∷ []) $ fjoin3 ! $ move ! (2 ∷ 3 ∷ 4 ∷ 1 ∷ 0 ∷ []) $ group ! 5 $
    use1 𝓛 (later (some (λ (γ' : GName). raw (Part 𝓛 Row R F (named 0) κ q rb ro pb po γ (sem 𝓛 Left) way x γ'))))
    (lends_Part 𝓛 Row R F (named 0) κ q rb ro pb po γ (sem 𝓛 Left) way code_d code_d x) $ await ! tt $ pick ! (λ γ'.
    let r : Ref.Denot = record { ref_ptr = (pb, po); ghost_name = γ'; now = x } in
    use1 𝓛 (‵ (Ref.own_val r (vptr pb po ∷ [])) ⊛ ‵ (flft κ q) ⊛ ‵ (follows Row R γ γ' F)) (id⊢ 𝓤 _) $ split3 ! $
    move ! (1 ∷ 3 ∷ []) $ join ! $ use0 𝓛 (raw (fact 𝓤 (d.held ≡ Some x))) (fact_i 𝓤 (d.held ≡ Some x) (emp 𝓤) one) $
    move ! (3 ∷ 0 ∷ []) $ join ! $ nothing ! $ nothing ! $ fjoin ! $
    returns ! (look_at ! 0 refl) $ free_all ! refl $ keep ! (2 ∷ 0 ∷ 3 ∷ 1 ∷ []) $
    by ! (leaves 𝓛 En hs c y (vptr pb po) r (tt, tt) (tt, tt)))))))))
