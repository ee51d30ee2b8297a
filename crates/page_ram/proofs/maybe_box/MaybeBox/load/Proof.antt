-- `load` shows the value for as long as the place is borrowed.
use Rattle.std.proofs.Common.{◌≡◌, ℕ, List, [], ◌∷◌, refl, sym, ap, ◌∙◌, lit<}
use mir.Syntax.{Body, seq, assign, place, rv_opd, copy, aggregate, int, w8, a_type, named}
use mir.Val.{Val, vptr, vcons, vnil}
use mir.MapTy.{inst_fn}
use base.Logic.{SProp, emp}
use base.Fml.{Lft, Fml, ftrue, fsep, flft, fhide}
use prog.Wp.{Wp, after_seq, at_return}
use types.Kit.{‵, raw, ◌⊛◌, at_ret, any_q, ◌$◌, ◌∵◌, !, qed, by, move, keep, drop, split, join, fsplit, fjoin, use0}
use types.Kit.{use1, rewrite, feq_i}
use types.Run.{stop, fld, hop, load, addr, lit, of_opd, bin, no_more, and_then, first, blocks, branches, exec}
use types.Run.{returns, enter}
use types.ByLocal.{alloc_all, pass_all, free_all, look_at, get, through, sets, sets_last, env}
use types.Part.{agg, sub, whole, look_in}
use types.Match.{live}
use contract.Monad.{fact, fact_i}
use contract.Running.{tables}
use denote.Exit.{yes}
use denote.RattleType.{RattleType, owns}
use denote.Laws.{Is, shows}
use denote.Signature.{types_at, type_at, plain}
use denote.Builtin.{RefOf}
use denote.Ref.{ShrRef, shr_vals, shr_Tells}
use denote.RawPtr.{Ptr, block_ptr, null_ptr, tests_null}
use denote.Memory.{cell_at, hidden_shr}
use denote.Opens.{unhide, hide}
use denote.Steps.{nothing, peeks, looks, shuts}
use denote.Param.{param, layout, layouts}
use denote.Struct.Lending.{lent_out}
use denote.Struct.Owning.{to}
use denote.Triple.Walked.{Stays, stay_dropped, walk_of, Goes-dropped}
use Rattle.std.specs.Prelude.{None, Some}
use Rattle.std.proofs.alloc.Shapes.{after}
use Rattle.std.proofs.cell.Inside.{Good}
use Rattle.std.proofs.option.Made.{Some-of, none_of}
use Rattle.std.proofs.raw_atomic.Walks.{proved, leaves}
use Rattle.std.specs.contracts.alloc.Global as heap
use Rattle.page_ram.specs.Inner.Owned.{maybe_box_shares}
use Rattle.page_ram.specs.contracts.maybe_box.MaybeBox as maybe_box
use Rattle.page_ram.proofs.MaybeBoxSteps.{word, Data, told, opened, either_lent}
use Rattle.page_ram.specs.contracts.maybe_box.MaybeBox.load.{ended, clauses}
use Rattle.page_ram.specs.contracts.maybe_box.MaybeBox.load.Key.{name as #self}
use Rattle.page_ram.proofs.maybe_box.MaybeBox.load.Statement.{statement}
use Rattle.page_ram.proofs.maybe_box.MaybeBox.load.Code as code

-- the rest of the branch that found a value
abbrev wraps : Body
wraps = seq (assign (place 5 []) (rv_opd (copy (place 6 [])))) (assign (place 4 []) (aggregate (int w8 1 ∷
    copy (place 5 []) ∷ [])))

pub load_spec : {M : Type 1} → statement M
load_spec 𝓤 𝓛 𝓜 𝓡 wired X L =
    let H = 𝓛.H in
    let 𝓣 = tables 𝓤 H 𝓜 𝓡 𝓡.env in
    let R : RattleType = param 0 X in
    let En = ended X in
    let inst = layouts (a_type ∷ []) (X, tt) in
    let fn = inst_fn inst code.function in
    let Row : RattleType = maybe_box.the_row R in
    let D : RattleType = Data R in
    let c = clauses X 𝓛 𝓜.mem 𝓡.returns in
    let self = RefOf (0 ∷ []) tt (plain (λ _. Row)) (λ _. tt) in
    let hs : Stays En.signature.params En.kept = (stay_dropped self yes, tt) in
    proved 𝓛 En hs c 𝓜 𝓡 (Goes-dropped 𝓛 2 self yes (λ κs x f. refl), tt)
    (#self inst) fn (code.unfolded 𝓤 H 𝓜 𝓡 wired (X, tt))
    (λ κs. (shr_vals, tt)) (λ κs. (shr_Tells (named 0) κs.0 Row, tt)) (λ κs qs bounds a gh are.
    let b : ℕ = a.0.ref_ptr.0 in
    let o : ℕ = a.0.ref_ptr.1 in
    let κ : Lft = κs.0 in
    let d : Row.Denot = a.0.now in
    let others : Fml = fsep (flft κs.1.0 qs.1.0) ftrue in
    let ds : D.Denot = to (maybe_box.the_type R) d in
    let y : (walk_of 𝓛 En hs c).Ghost = ((κs, qs, bounds, a, (vptr b o ∷ [], tt)), gh) in
    let Post : Val → SProp 𝓤 = (walk_of 𝓛 En hs c).post y in
    let Ref : RattleType = ShrRef (named 0) κ R in
    let Out : RattleType = type_at En.signature.result κs in
    qed 𝓛 (((‵ (flft κ qs.0) ⊛ ‵ others) ⊛ ‵ (owns (types_at En.signature.params κs) a y.0.4)) ∷
    raw ((c κs a).requires gh) ∷ []) ∵
    split ! $ split ! $ move ! (2 ∷ []) $ fsplit ! $ fsplit ! $ keep ! (1 ∷ 3 ∷ 4 ∷ []) $
    enter ! 𝓣.C 𝓣.Λ fn (vptr b o ∷ []) Post $ alloc_all ! (λ l. pass_all ! refl ((tt, tt), tt) $
    let Ev = env fn.locals l in
    use1 𝓛 (‵ (hidden_shr D κ ds b o) ⊛ ‵ (fhide (maybe_box_shares R d.at d.held κ)))
    (lent_out 𝓛 (maybe_box.struct R) (maybe_box.the_codes X.Denot R.coded heap.the_row.coded) (maybe_box.the_heap R)
    (maybe_box.the_lent R) κ d b o) $
    split ! $ move ! (1 ∷ []) $ unhide ! $ either_lent R ! d.at d.held
    -- null: there is no value
    (λ is none. looks ! tt D (opened R 𝓛) ds b o (λ q vs. move ! (1 ∷ []) $ peeks ! D (Is D) (shows 𝓛 D) ds vs (λ so.
    let ev : vs ≡ word null_ptr ∷ [] = told R d vs so ∙ ap (λ (r : Ptr). word r ∷ []) is in
    rewrite ! 1 (λ (ws : List Val). ‵ (cell_at q D.mir ws b o)) ev refl $
    sets ! (of_opd ! (load ! (through ! refl (fld ! refl (stop !)))
    (look_in ! 1 (sub ! 0 refl (whole !))))) refl (tt, record { fits = lit< tt }) $
    rewrite ! 1 (λ (ws : List Val). ‵ (cell_at q D.mir ws b o)) (sym ev) refl $ move ! (1 ∷ 0 ∷ 2 ∷ []) $
    shuts ! tt D q ds vs b o $
    sets ! (bin ! (get ! refl) (lit ! tt) tt) refl (tt, tt) $ first ! $ branches ! (get ! refl)
    (λ _. sets_last ! (agg ! (and_then ! (lit ! tt) (no_more !))) refl (tt, (record { fits = lit< tt }, tt)) $
    exec ! 𝓣.C 𝓣.Λ Ev (after 3 fn.body) (at_ret Ev Post) $
    sets ! (of_opd ! (get ! refl)) refl (tt, (record { fits = lit< tt }, tt)) $ move ! (0 ∷ 2 ∷ []) $ join ! $
    use0 𝓛 (‵ (Out.own_val None (live 0 vnil ∷ []))) (none_of 𝓛 Ref) $
    use0 𝓛 (raw (fact 𝓤 (d.held ≡ None))) (fact_i 𝓤 (d.held ≡ None) (emp 𝓤) none) $ nothing ! $ nothing ! $ fjoin ! $
    returns ! (look_at ! 0 refl) $ free_all ! refl $ keep ! (3 ∷ 0 ∷ 2 ∷ 1 ∷ []) $
    by ! (leaves 𝓛 En hs c y (live 0 vnil) None (tt, tt) (tt, tt))) (λ wrong. absurd wrong))))
    -- a block: a `&` to its value, which lives as long as the one to the pointer
    (λ pb po x is one t. fsplit ! $ drop ! $ hide ! $ move ! (1 ∷ 2 ∷ []) $
    looks ! tt D (opened R 𝓛) ds b o (λ q vs. move ! (1 ∷ []) $ peeks ! D (Is D) (shows 𝓛 D) ds vs (λ so.
    let ev : vs ≡ word (block_ptr pb po) ∷ [] = told R d vs so ∙ ap (λ (r : Ptr). word r ∷ []) is in
    let r : Ref.Denot = record { ref_ptr = (pb, po); now = x } in
    let v : Val = live 1 (vcons (vptr pb po) vnil) in
    let good : Good (layout Out) v = (tt, (record { fits = lit< tt }, (tt, tt))) in
    let Then = any_q (after_seq 𝓤 H (Wp 𝓤 H 𝓣.C 𝓣.Λ Ev (after 3 fn.body) (at_return 𝓤 H Ev Post))
    (at_return 𝓤 H Ev Post)) in
    rewrite ! 1 (λ (ws : List Val). ‵ (cell_at q D.mir ws b o)) ev refl $
    sets ! (of_opd ! (load ! (through ! refl (fld ! refl (stop !)))
    (look_in ! 1 (sub ! 0 refl (whole !))))) refl (tt, tt) $
    sets ! (bin ! (get ! refl) (lit ! tt) (tests_null (block_ptr pb po) t)) refl (tt, tt) $ first ! $
    branches ! (get ! refl) (λ wrong. absurd wrong) (λ _.
    first ! $ blocks ! $ sets_last ! (addr ! (through ! refl (fld ! refl (hop ! (look_in ! 1 (sub ! 0 refl (whole
    !))) (stop !))))) refl (tt, tt) $ exec ! 𝓣.C 𝓣.Λ Ev wraps Then $
    rewrite ! 1 (λ (ws : List Val). ‵ (cell_at q D.mir ws b o)) (sym ev) refl $ move ! (1 ∷ 0 ∷ 2 ∷ []) $
    shuts ! tt D q ds vs b o $
    sets ! (of_opd ! (get ! refl)) refl (tt, tt) $
    sets_last ! (agg ! (and_then ! (lit ! tt) (and_then ! (get ! refl) (no_more !)))) refl good $
    exec ! 𝓣.C 𝓣.Λ Ev (after 3 fn.body) (at_ret Ev Post) $ sets ! (of_opd ! (get ! refl)) refl good $
    move ! (0 ∷ 3 ∷ []) $ join ! $ move ! (2 ∷ []) $
    feq_i ! (List Val) (vptr pb po ∷ []) (vptr pb po ∷ []) refl $ fjoin ! $
    use1 𝓛 (‵ (Out.own_val (Some r) (v ∷ []))) (Some-of 𝓛 Ref r (vptr pb po)) $
    use0 𝓛 (raw (fact 𝓤 (d.held ≡ Some x))) (fact_i 𝓤 (d.held ≡ Some x) (emp 𝓤) one) $ nothing ! $ nothing ! $ fjoin ! $
    returns ! (look_at ! 0 refl) $ free_all ! refl $ keep ! (3 ∷ 0 ∷ 2 ∷ 1 ∷ []) $
    by ! (leaves 𝓛 En hs c y v (Some r) (tt, tt) (tt, tt))))))))
