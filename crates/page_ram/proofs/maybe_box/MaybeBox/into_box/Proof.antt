-- `into_box` hands what the place owns to `from_raw`.
use Rattle.std.proofs.Common.{◌≡◌, List, [], ◌∷◌, ◌++◌, refl, sym, ap, ◌∙◌, subst, lit<}
use lib.Dec.{T}
use mir.Syntax.{Body, Dict, seq, assign, place, rv_opd, copy, aggregate, int, w8, a_type, impl, tcons, tnil}
use mir.Syntax.{dnil}
use mir.Val.{Val, vptr, vcons, vnil, has_ty, WT}
use mir.MapTy.{inst_fn}
use mir.Raw.{raw as bare}
use base.Fraction.{left, right}
use base.Logic.{SProp, ent, emp, id⊢}
use base.Fml.{Lft, Share, ftrue, flft}
use prog.Wp.{WpFn, Wp, after_seq, at_return}
use types.Kit.{Item, ‵, raw, ◌⊛◌, some, later, at_ret, any_q, ◌$◌, ◌∵◌, !, qed, by, move, keep, drop, split, split3}
use types.Kit.{join, pick, fsplit, fjoin, fjoin3, use0, use1, use2, feq_i, await, suffices}
use types.Run.{stop, fld, lit, of_opd, bin, no_more, and_then, first, blocks, branches, exec, returns, enter}
use types.ByLocal.{alloc_all, pass_all, free_all, look_at, get, get_in, is, sets, sets_last, lands_last, env}
use types.Part.{agg, sub, whole}
use types.Match.{live}
use contract.Monad.{fact, fact_i}
use contract.BorrowLft.{◌⊑◌, ⊑_static}
use contract.Running.{tables, tables_of}
use denote.Exit.{no}
use denote.RattleType.{RattleType, owns}
use denote.Laws.{Is, shows}
use denote.Signature.{types_at, type_at, plain}
use denote.RawPtr.{Ptr, block_ptr, null_ptr, tests_null}
use denote.Steps.{nothing, peeks, heard, owned, only}
use denote.Param.{param, arg, layout, layouts}
use denote.Param.Laws.{arg_laws}
use denote.Param.NoDrop.{glues}
use denote.Struct.Owning.{to}
use denote.Triple.Call.{calls_at_last}
use denote.Triple.Clauses.{Lasts, lasts}
use denote.Triple.Spec.{triple_of}
use denote.Triple.Table.{framed}
use denote.Triple.Walked.{Stays, stay_dropped, walk_of, Goes-dropped}
use Rattle.std.specs.Prelude.{None, Some}
use Rattle.std.proofs.alloc.Shapes.{after}
use Rattle.std.proofs.cell.Inside.{Good}
use Rattle.std.proofs.option.Made.{Some-of, none_of}
use Rattle.std.proofs.raw_atomic.Walks.{proved_at, leaves}
use Rattle.std.proofs.ResultValues.{and_tt}
use Rattle.std.proofs.BoxSteps.Form as box
use Rattle.std.proofs.BoxSteps.Steps.{box_out, box_in}
use Rattle.std.proofs.Handle.{heap_val}
use Rattle.std.specs.contracts.alloc.Global as heap
use Rattle.std.proofs.alloc.Global.TheLaws as heap_laws
use Rattle.std.specs.contracts.impls.GlobalAllocator.TheImpl.{ghosts, dict}
use Rattle.std.proofs.impls.GlobalAllocator.TheImpl.Met.{passed}
use Rattle.std.specs.contracts.boxed.Box as boxed
use Rattle.std.specs.contracts.boxed.Box.from_raw as callee
use Rattle.std.proofs.boxed.Box.from_raw.Met as callee_met
use Rattle.page_ram.specs.contracts.maybe_box.MaybeBox as maybe_box
use Rattle.page_ram.proofs.MaybeBoxSteps.{word, Data, told, either_owned, testable, handle_is, handle_makes}
use Rattle.page_ram.proofs.MaybeBoxSteps.{handle_good, null_good, block_good}
use Rattle.page_ram.specs.contracts.maybe_box.MaybeBox.into_box.{ended, clauses}
use Rattle.page_ram.specs.contracts.maybe_box.MaybeBox.into_box.Key.{name as #self}
use Rattle.page_ram.proofs.maybe_box.MaybeBox.into_box.Statement.{statement}
use Rattle.page_ram.proofs.Destruct++none.drop.Code as none
use Rattle.page_ram.proofs.maybe_box.MaybeBox.into_box.Code as code

-- the rest of the branch that found a value
abbrev wraps : Body
wraps = seq (assign (place 7 []) (rv_opd (copy (place 8 [])))) (assign (place 6 []) (aggregate (int w8 1 ∷
    copy (place 7 []) ∷ [])))

pub into_box_spec : {M : Type 1} → statement M
unfolding tables_of none.code
into_box_spec {M} 𝓤 𝓛 𝓜 𝓡 wired X L =
    let H = 𝓛.H in
    let 𝓣 = tables 𝓤 H 𝓜 𝓡 𝓡.env in
    let R : RattleType = param 0 X in
    let En = ended X in
    let inst = layouts (a_type ∷ []) (X, tt) in
    let fn = inst_fn inst code.function in
    let Row : RattleType = maybe_box.the_row R in
    let D : RattleType = Data R in
    let c = clauses X 𝓛 𝓜.mem 𝓡.returns in
    let Z : RattleType = arg (bare (layout heap.the_row)) no heap.the_row in
    let LZ = arg_laws (bare (layout heap.the_row)) no heap.the_row heap_laws.the_row_laws refl in
    let dd : Dict = impl ("page_ram::Destruct++none::drop" ∷ []) (tcons (layout Z) tnil) dnil in
    let E : box.Bx = record {
      row = X;
      laws = L;
      al = record {
        row = Z;
        laws = LZ;
        g = ghosts;
        d = dict;
        drops =
            dd;
      };
    } in let B : RattleType = box.B E in
    let Made = triple_of 𝓛 (callee.signature X Z ghosts dict dd)
    (callee.spec X Z ghosts dict dd 𝓛 𝓜.mem 𝓡.returns) in let Ce = callee.ended X Z ghosts dict dd in
    let known = callee_met.met 𝓤 𝓛 𝓜 𝓡 (code.calls-std_alloc::boxed::Box::from_raw 𝓡.env wired) X Z L LZ ghosts dict dd
    (passed 𝓡.env (code.calls-std_heap::GlobalAllocator::allocate 𝓡.env wired)
    (code.calls-std_heap::GlobalAllocator::deallocate 𝓡.env wired)
    (code.calls-std_heap::GlobalAllocator::grow 𝓡.env wired)
    (code.calls-std_heap::GlobalAllocator::shrink 𝓡.env wired) M 𝓤 𝓛 𝓜 𝓡)
    (glues "page_ram::Destruct++none::drop" 𝓡.env (code.calls-page_ram::Destruct++none::drop 𝓡.env wired) Z LZ M
    𝓤 𝓛 𝓜 𝓡) in
    let hs : Stays En.signature.params En.kept = (stay_dropped (plain (λ _. Row)) no, tt) in
    proved_at 𝓛 En hs c 𝓜 𝓡 (Goes-dropped 𝓛 1 (plain (λ _. Row)) no (λ κs x f. refl), tt)
    (#self inst) fn (code.unfolded 𝓤 H 𝓜 𝓡 wired (X, tt)) (λ z are.
    let κs = z.0.0 in
    let qs = z.0.1 in
    let κ : Lft = κs.0 in
    let q : Share = qs.0 in
    let Post : Val → SProp 𝓤 = (walk_of 𝓛 En hs c).post z in
    let Run : List Val → SProp 𝓤 = λ ws. WpFn 𝓤 H 𝓣.C 𝓣.Λ fn ws Post in
    let Out : RattleType = type_at En.signature.result κs in
    let d : Row.Denot = z.0.3.0 in
    let ds : D.Denot = to (maybe_box.the_type R) d in
    let vs : List Val = z.0.4.0 in
    let a = d.alloc in
    let toks : Item 𝓤 = ‵ (flft κ q) ⊛ ‵ ftrue in
    let t₁ : Item 𝓤 = ‵ (flft κ (left q)) in
    let t₂ : Item 𝓤 = ‵ (flft κ (right q)) in
    let Inner : RattleType = boxed.the_row R heap.the_row ghosts in
    qed 𝓛 ((toks ⊛ ‵ (owns (types_at En.signature.params κs) z.0.3 z.0.4)) ∷ raw ((c κs z.0.3).requires z.1) ∷ []) ∵
    move ! (1 ∷ []) $ use1 𝓛 (raw (fact 𝓤 (κ ⊑ X.lives)) ⊛ ‵ ftrue) (id⊢ 𝓤 _) $ split ! $
    heard ! (κ ⊑ X.lives) (λ inX. drop ! $
    split ! $ move ! (1 ∷ []) $ fsplit ! $ fsplit ! $
    peeks ! D (Is D) (shows 𝓛 D) ds vs (λ so. let ew = told R d vs so in keep ! (1 ∷ 3 ∷ []) $
    either_owned R ! a d.at d.held
    -- null: no box
    (λ lies nothing_held. let w : Val = word null_ptr in
    let ew' : vs ≡ w ∷ [] = ew ∙ ap (λ (r : Ptr). word r ∷ []) lies in
    suffices ! (Run (w ∷ [])) (subst (λ (us : List Val). ent 𝓤 (Run (w ∷ [])) (Run us)) (sym (λ i. ew' i ++ []))
    (id⊢ 𝓤 (Run (w ∷ [])))) $
    enter ! 𝓣.C 𝓣.Λ fn (w ∷ []) Post $ alloc_all ! (λ l. pass_all ! refl (null_good R, tt) $ let Ev = env fn.locals l in
    sets ! (of_opd ! (get_in ! (fld ! refl (stop !)) (sub ! 0 refl (whole !)))) refl (
      tt,
      record {
        fits =
            lit< tt;
      },
    ) $ sets ! (of_opd ! (get_in ! (fld ! refl (stop !)) (sub ! 1 refl (whole !)))) refl handle_good $
    sets ! (of_opd ! (get ! refl)) refl (tt, record { fits = lit< tt }) $
    sets ! (bin ! (get ! refl) (lit ! tt) tt) refl (tt, tt) $ first ! $ branches ! (get ! refl)
    (λ _. sets_last ! (agg ! (and_then ! (lit ! tt) (no_more !))) refl (tt, (record { fits = lit< tt }, tt)) $
    exec ! 𝓣.C 𝓣.Λ Ev (after 5 fn.body) (at_ret Ev Post) $
    sets ! (of_opd ! (get ! refl)) refl (tt, (record { fits = lit< tt }, tt)) $
    use0 𝓛 (‵ (Out.own_val None (live 0 vnil ∷ []))) (none_of 𝓛 Inner) $
    use0 𝓛 (raw (fact 𝓤 (None ≡ d.held))) (fact_i 𝓤 (None ≡ d.held) (emp 𝓤) (sym nothing_held)) $ nothing ! $
    nothing ! $ fjoin ! $
    returns ! (look_at ! 0 refl) $ free_all ! refl $ keep ! (3 ∷ 0 ∷ 2 ∷ 1 ∷ []) $
    by ! (leaves 𝓛 En hs c z (live 0 vnil) None (tt, tt) (tt, tt))) (λ wrong. absurd wrong)))
    -- a block: what is owned is what `from_raw` wants
    (λ pb po x lies one e. let w : Val = word (block_ptr pb po) in
    let ew' : vs ≡ w ∷ [] = ew ∙ ap (λ (r : Ptr). word r ∷ []) lies in
    let p : Ptr = block_ptr pb po in
    let y : Made.Ghost = (
      (
        (κ, (κ, tt)),
        (left q, (right q, tt)),
        tt,
        (a, (p, tt)),
        (
          heap_val ∷ [],
          (
            vptr pb po ∷
                [],
            tt,
          ),
        ),
      ),
      x,
    ) in let inZ = κ ⊑ Z.lives in let inR = κ ⊑ X.lives in
    suffices ! (Run (w ∷ [])) (subst (λ (us : List Val). ent 𝓤 (Run (w ∷ [])) (Run us)) (sym (λ i. ew' i ++ []))
    (id⊢ 𝓤 (Run (w ∷ [])))) $
    enter ! 𝓣.C 𝓣.Λ fn (w ∷ []) Post $ alloc_all ! (λ l. pass_all ! refl (block_good R pb po, tt) $
    let Ev = env fn.locals l in
    let Then = any_q (after_seq 𝓤 H (Wp 𝓤 H 𝓣.C 𝓣.Λ Ev (after 5 fn.body) (at_return 𝓤 H Ev Post))
    (at_return 𝓤 H Ev Post)) in
    sets ! (of_opd ! (get_in ! (fld ! refl (stop !)) (sub ! 0 refl (whole !)))) refl (tt, tt) $
    sets ! (of_opd ! (get_in ! (fld ! refl (stop !)) (sub ! 1 refl (whole !)))) refl handle_good $
    sets ! (of_opd ! (get ! refl)) refl (tt, tt) $
    sets ! (bin ! (get ! refl) (lit ! tt) (tests_null p (testable pb po e))) refl (tt, tt) $ first ! $
    branches ! (get ! refl) (λ wrong. absurd wrong) (λ _.
    first ! $ blocks ! $ sets ! (of_opd ! (get ! refl)) refl handle_good $
    sets ! (of_opd ! (get ! refl)) refl (tt, tt) $
    move ! (1 ∷ []) $ split ! $ use1 𝓛 (t₁ ⊛ t₂) (𝓛.lfts.lft_split κ q) $ split ! $ move ! (1 ∷ 2 ∷ []) $ join ! $
    move ! (1 ∷ 0 ∷ []) $ join ! $
    owned ! Z _ (handle_makes 𝓛) a (heap_val ∷ []) (handle_is R d vs so) $ move ! (2 ∷ []) $
    -- [what is owned; the handle; the tokens]
    use0 𝓛 (raw (fact 𝓤 inZ)) (fact_i 𝓤 inZ (emp 𝓤) (⊑_static κ)) $ join ! $
    use0 𝓛 (raw (fact 𝓤 inR)) (fact_i 𝓤 inR (emp 𝓤) inX) $ join ! $
    nothing ! $ feq_i ! (List Val) (vptr pb po ∷ []) (vptr pb po ∷ []) refl $ move ! (3 ∷ 0 ∷ 1 ∷ []) $ fjoin3 ! $
    move ! (2 ∷ 0 ∷ []) $ join ! $ join ! $ use1 𝓛 (raw (Made.pre y)) (id⊢ 𝓤 _) $
    calls_at_last ! (framed 𝓤 H 𝓜 𝓣) Made known y (and_then ! (get ! refl) (and_then ! (get ! refl) (no_more !))) (λ u.
    use1 𝓛 (later (some (λ (r : B.Denot). ((t₁ ⊛ t₂ ⊛ ‵ ftrue) ⊛ ‵ (B.own_val r (u ∷ []))) ⊛
    some (λ (ws : Lasts Ce (κ, (κ, tt)) (a, (p, tt))). ‵ (lasts Ce (κ, (κ, tt)) (a, (p, tt)) ws) ⊛
    (raw (fact 𝓤 (r.value ≡ x)) ⊛ raw (fact 𝓤 (r.alloc ≡ a))))))) (id⊢ 𝓤 _) $
    await ! tt $ pick ! (λ r. split ! $ move ! (1 ∷ []) $ pick ! (λ _. split3 ! $ drop ! $ move ! (1 ∷ []) $ drop ! $
    heard ! (r.value ≡ x) (λ same. split ! $ move ! (1 ∷ []) $
    box_out E ! r (u ∷ []) (λ b' o' hw e' eu fw. box_in E ! r b' o' r.value e' refl $
    let w' : Val = box.word E hw b' o' in
    let typed' = box.box_typed E hw b' o' fw in
    let is_word : u ≡ w' = ap only eu in
    let v : Val = live 1 (vcons w' vnil) in
    let good : Good (layout Out) v = (and_tt _ typed'.0, (record { fits = lit< tt }, (typed'.1, tt))) in
    lands_last ! refl (subst (λ (s : Val). T (has_ty (box.box_ty E) s) × WT s) (sym is_word) typed') $
    exec ! 𝓣.C 𝓣.Λ Ev wraps Then $ sets ! (is ! (of_opd ! (get ! refl)) is_word) refl typed' $
    sets_last ! (agg ! (and_then ! (lit ! tt) (and_then ! (get ! refl) (no_more !)))) refl good $
    exec ! 𝓣.C 𝓣.Λ Ev (after 5 fn.body) (at_ret Ev Post) $ sets ! (of_opd ! (get ! refl)) refl good $
    use1 𝓛 (‵ (Out.own_val (Some r) (v ∷ []))) (Some-of 𝓛 Inner r w') $ move ! (1 ∷ []) $ split3 ! $
    use2 𝓛 (‵ (flft κ q)) (𝓛.lfts.lft_join κ q) $ join ! $ move ! (1 ∷ []) $
    use0 𝓛 (raw (fact 𝓤 (Some r.value ≡ d.held))) (fact_i 𝓤 (Some r.value ≡ d.held) (emp 𝓤) (ap Some same ∙
    sym one)) $ nothing ! $ nothing ! $ fjoin ! $
    returns ! (look_at ! 0 refl) $ free_all ! refl $ keep ! (3 ∷ 0 ∷ 2 ∷ 1 ∷ []) $
    by ! (leaves 𝓛 En hs c z v (Some r) (tt, tt) (tt, tt)))))))))))))
