-- `make` takes the box apart by `into_raw`, or puts null in its place.
use Rattle.std.proofs.Common.{◌≡◌, ℕ, List, [], ◌∷◌, ◌++◌, refl, sym, ap, ◌∙◌, subst, lit<}
use mir.Syntax.{Body, Dict, a_type, impl, tcons, tnil, dcons}
use mir.Syntax.{dnil}
use mir.Val.{Val, vcons, vnil, of_list}
use mir.MapTy.{inst_fn}
use mir.Raw.{raw as bare}
use base.Fraction.{left, right}
use base.Logic.{SProp, ent, emp, never, id⊢, fst∗, guard_i}
use base.Fml.{Lft, Share, Fml, ftrue, flft}
use prog.Wp.{WpFn, Wp, after_seq, at_return}
use types.Logic.{sem}
use types.Kit.{Item, ‵, raw, ◌⊛◌, some, given, later, learn, feq_l, at_ret, any_q, ◌$◌, ◌∵◌, !, qed, by, move, keep}
use types.Kit.{drop, split, split3, join, pick, fsplit, fjoin, use0, use1, use2, feq_i, await}
use types.Kit.{suffices}
use types.Run.{stop, fld, lit, of_opd, no_more, and_then, first, switches_on, exec, returns, enter}
use types.ByLocal.{alloc_all, pass_all, free_all, look_at, get, get_in, sets, sets_last, lands_as, get_tag, env}
use types.Part.{agg, whole}
use types.Match.{live, vrt, in_variant}
use contract.Monad.{fact, fact_i, fact_use}
use contract.BorrowLft.{◌⊑◌, ⊑_static}
use contract.Running.{tables, tables_of}
use denote.Exit.{yes, no, rest}
use denote.RattleType.{RattleType, owns}
use denote.Laws.{Is}
use denote.Signature.{types_at, plain}
use denote.RawPtr.{Ptr, RawPtr, block_ptr, null_ptr, ptr_val, in_a_block}
use denote.Memory.{lone}
use denote.Steps.{nothing, heard, owned, only}
use denote.Param.{param, arg, layout, bounded}
use denote.Param.Laws.{arg_laws}
use denote.Param.NoDrop.{glues}
use denote.Struct.Owning.{to}
use denote.Triple.Call.{calls_at}
use denote.Triple.Clauses.{Lasts, lasts}
use denote.Triple.Spec.{triple_of}
use denote.Triple.Table.{framed}
use denote.Triple.Walked.{Stays, stay_dropped, walk_of, Goes-dropped}
use Rattle.std.proofs.alloc.Calls.{Goes-blank}
use Rattle.std.specs.Prelude.{None, Some}
use Rattle.std.proofs.alloc.Shapes.{after, head, arm_body}
use Rattle.std.proofs.raw_atomic.Walks.{proved_at, leaves}
use Rattle.std.proofs.ResultValues.{and_tt}
use Rattle.std.proofs.BoxSteps.Form as box
use Rattle.std.proofs.BoxSteps.Steps.{box_out, box_in}
use Rattle.std.proofs.Handle.{heap_val, heap_Tells}
use Rattle.std.proofs.GlobalToken.{dealloc_token_start}
use Rattle.std.specs.Box.Ownership.{box_owns}
use Rattle.std.specs.contracts.alloc.Global as heap
use Rattle.std.proofs.alloc.Global.TheLaws as heap_laws
use Rattle.std.specs.contracts.impls.GlobalAllocator.TheImpl.{ghosts, dict}
use Rattle.std.proofs.impls.GlobalAllocator.TheImpl.Met.{passed}
use Rattle.std.specs.contracts.boxed.Box as boxed
use Rattle.std.specs.contracts.option.Option as option
use Rattle.std.specs.contracts.boxed.Box.into_raw as callee
use Rattle.std.proofs.boxed.Box.into_raw.Met as callee_met
use Rattle.page_ram.specs.Inner.Owned.{boxed_value}
use Rattle.page_ram.specs.contracts.maybe_box.MaybeBox as maybe_box
use Rattle.page_ram.proofs.MaybeBoxSteps.{word, Data, data_makes, data_is, either_boxed, boxed_blank, handle_good}
use Rattle.page_ram.proofs.MaybeBoxSteps.{null_good, block_good}
use Rattle.page_ram.specs.contracts.maybe_box.MaybeBox.make.{ended, clauses}
use Rattle.page_ram.specs.contracts.maybe_box.MaybeBox.make.Key.{name as #self}
use Rattle.page_ram.proofs.maybe_box.MaybeBox.make.Statement.{statement}
use Rattle.page_ram.proofs.Destruct++none.drop.Code as none
use Rattle.page_ram.proofs.maybe_box.MaybeBox.make.Code as code

pub make_spec : {M : Type 1} → statement M
unfolding tables_of none.code
make_spec {M} 𝓤 𝓛 𝓜 𝓡 wired X L dx glue =
    let H = 𝓛.H in
    let 𝓣 = tables 𝓤 H 𝓜 𝓡 𝓡.env in
    let R : RattleType = param 0 X in
    let En = ended X dx in
    let inst = bounded (a_type ∷ []) (X, tt) (dcons dx dnil) in
    let fn = inst_fn inst code.function in
    let Row : RattleType = maybe_box.the_row R in
    let D : RattleType = Data R in
    let c = clauses X dx 𝓛 𝓜.mem 𝓡.returns in
    let Z : RattleType = arg (bare (layout heap.the_row)) no heap.the_row in
    let LZ = arg_laws (bare (layout heap.the_row)) no heap.the_row heap_laws.the_row_laws refl in
    let dd : Dict = impl ("page_ram::Destruct++none::drop" ∷ []) (tcons (layout Z) tnil) dnil in
    let E : box.Bx = record {
      row = X;
      laws = L;
      al = record {
        row = Z;
        laws = LZ;
        g = ghosts;
        d = dict;
        drops =
            dd;
      };
    } in
    let Taken = triple_of 𝓛 (callee.signature X Z ghosts dict dd dx)
    (callee.spec X Z ghosts dict dd dx 𝓛 𝓜.mem 𝓡.returns) in let Ce = callee.ended X Z ghosts dict dd dx in
    let known = callee_met.met 𝓤 𝓛 𝓜 𝓡 (code.calls-std_alloc::boxed::Box::into_raw 𝓡.env wired) X Z L LZ ghosts dict
    dd dx
    (passed 𝓡.env (code.calls-std_heap::GlobalAllocator::allocate 𝓡.env wired)
    (code.calls-std_heap::GlobalAllocator::deallocate 𝓡.env wired)
    (code.calls-std_heap::GlobalAllocator::grow 𝓡.env wired)
    (code.calls-std_heap::GlobalAllocator::shrink 𝓡.env wired) M 𝓤 𝓛 𝓜 𝓡)
    (glues "page_ram::Destruct++none::drop" 𝓡.env (code.calls-page_ram::Destruct++none::drop 𝓡.env wired) Z LZ M
    𝓤 𝓛 𝓜 𝓡) glue in
    let Inner : RattleType = boxed.the_row R heap.the_row ghosts in
    let Opt : RattleType = option.the_row Inner in
    let hs : Stays En.signature.params En.kept =
    (stay_dropped (plain (λ _. heap.the_row)) yes, (stay_dropped (plain (λ _. Opt)) no, tt)) in
    proved_at 𝓛 En hs c 𝓜 𝓡 (
      Goes-dropped 𝓛 1 (plain (λ _. heap.the_row)) yes (λ κs x f. refl),
      (
        Goes-blank 𝓛 1
            (plain (λ _. Opt)) no (λ κs x f. boxed_blank R x f),
        tt,
      ),
    )
    (#self inst) fn (code.unfolded 𝓤 H 𝓜 𝓡 wired (X, tt) dx) (λ z are.
    let κs = z.0.0 in
    let qs = z.0.1 in
    let κ : Lft = κs.0 in
    let q : Share = qs.0 in
    let Post : Val → SProp 𝓤 = (walk_of 𝓛 En hs c).post z in
    let Run : List Val → SProp 𝓤 = λ ws. WpFn 𝓤 H 𝓣.C 𝓣.Λ fn ws Post in
    let a = z.0.3.0 in
    let o = z.0.3.1.0 in
    let toks : Item 𝓤 = ‵ (flft κ q) ⊛ ‵ ftrue in
    let t₁ : Item 𝓤 = ‵ (flft κ (left q)) in
    let t₂ : Item 𝓤 = ‵ (flft κ (right q)) in
    let e₀ : z.0.4.0 ≡ heap_val ∷ [] = heap_Tells a z.0.4.0 are.0 in
    let isH : Is heap.the_row a (heap_val ∷ []) = subst (λ (ws : List Val). Is heap.the_row a ws) e₀ are.0 in
    let arms : Body = head fn.body in
    qed 𝓛 ((toks ⊛ ‵ (owns (types_at En.signature.params κs) z.0.3 z.0.4)) ∷ raw ((c κs z.0.3).requires z.1) ∷ []) ∵
    move ! (1 ∷ []) $ use1 𝓛 (raw (fact 𝓤 (κ ⊑ X.lives)) ⊛ ‵ ftrue) (id⊢ 𝓤 _) $ split ! $
    heard ! (κ ⊑ X.lives) (λ inX. drop ! $
    split ! $ move ! (1 ∷ []) $ fsplit ! $ drop ! $ fsplit ! $ either_boxed R ! o z.0.4.1.0
    -- no box: null
    (λ nothing_in e₁. let w : Val = live 0 vnil in
    let r : Row.Denot = record { at = null_ptr; alloc = a; held = None } in
    suffices ! (Run (heap_val ∷ w ∷ [])) (subst (λ (us : List Val). ent 𝓤 (Run (heap_val ∷ w ∷ [])) (Run us))
    (sym (λ i. e₀ i ++ (e₁ i ++ []))) (id⊢ 𝓤 (Run (heap_val ∷ w ∷ [])))) $
    enter ! 𝓣.C 𝓣.Λ fn (heap_val ∷ w ∷ []) Post $
    alloc_all ! (λ l. pass_all ! refl (handle_good, ((tt, (record { fits = lit< tt }, tt)), tt)) $
    let Ev = env fn.locals l in
    let Then = any_q (after_seq 𝓤 H (Wp 𝓤 H 𝓣.C 𝓣.Λ Ev (after 1 fn.body) (at_return 𝓤 H Ev Post))
    (at_return 𝓤 H Ev Post)) in
    first ! $ switches_on ! (get_tag ! (vrt ! refl (fld ! refl (stop !))) (whole !)) $
    exec ! 𝓣.C 𝓣.Λ Ev (arm_body 0 arms) Then $
    sets_last ! (agg ! (and_then ! (lit ! tt) (and_then ! (get ! refl) (no_more !)))) refl (null_good R) $
    exec ! 𝓣.C 𝓣.Λ Ev (after 1 fn.body) (at_ret Ev Post) $ sets ! (of_opd ! (get ! refl)) refl (null_good R) $
    drop ! $ nothing ! $ owned ! D _ (data_makes R 𝓛) (to (maybe_box.the_type R) r) (word null_ptr ∷ [])
    (data_is R r isH) $ fjoin ! $
    use0 𝓛 (raw (fact 𝓤 (r.held ≡ boxed_value o))) (fact_i 𝓤 (r.held ≡ boxed_value o) (emp 𝓤)
    (ap boxed_value (sym nothing_in))) $ nothing ! $ nothing ! $ fjoin ! $ nothing ! $ fjoin ! $
    returns ! (look_at ! 0 refl) $ free_all ! refl $ keep ! (3 ∷ 0 ∷ 2 ∷ 1 ∷ []) $
    by ! (leaves 𝓛 En hs c z (word null_ptr) r (tt, (rest (Opt.exit no) o, tt)) (tt, (tt, tt)))))
    -- a box: what `into_raw` gives is what is owned from now on
    (λ v bs one e₁. box_out E ! v bs (λ pb po hv eb ew fa. box_in E ! v pb po v.value eb refl $
    let w₀ : Val = box.word E hv pb po in
    let typed = box.box_typed E hv pb po fa in
    let w : Val = live 1 (vcons w₀ vnil) in
    let e₂ : z.0.4.1.0 ≡ w ∷ [] = e₁ ∙ (λ i. live 1 (of_list (ew i ++ [])) ∷ []) in
    let y : Taken.Ghost = (((κ, (κ, tt)), (left q, (right q, tt)), tt, (v, tt), (w₀ ∷ [], tt)), tt) in
    let inZ = κ ⊑ Z.lives in
    let inR = κ ⊑ X.lives in
    let held_by : Fml = ghosts.dealloc_token v.alloc (bare (lone R.mir)) null_ptr in
    suffices ! (Run (heap_val ∷ w ∷ [])) (subst (λ (us : List Val). ent 𝓤 (Run (heap_val ∷ w ∷ [])) (Run us))
    (sym (λ i. e₀ i ++ (e₂ i ++ []))) (id⊢ 𝓤 (Run (heap_val ∷ w ∷ [])))) $
    enter ! 𝓣.C 𝓣.Λ fn (heap_val ∷ w ∷ []) Post $
    alloc_all ! (λ l. pass_all ! refl (
      handle_good,
      (
        (
          and_tt _ typed.0,
          (
            record {
              fits =
                  lit< tt;
            },
            (typed.1, tt),
          ),
        ),
        tt,
      ),
    ) $ let Ev = env fn.locals l in
    let Then = any_q (after_seq 𝓤 H (Wp 𝓤 H 𝓣.C 𝓣.Λ Ev (after 1 fn.body) (at_return 𝓤 H Ev Post))
    (at_return 𝓤 H Ev Post)) in
    first ! $ switches_on ! (get_tag ! (vrt ! refl (fld ! refl (stop !))) (whole !)) $
    exec ! 𝓣.C 𝓣.Λ Ev (arm_body 1 arms) Then $
    sets ! (of_opd ! (get_in ! (vrt ! refl (fld ! refl (stop !)))
    (in_variant ! 1 0 refl refl (whole !)))) refl typed $ sets ! (of_opd ! (get ! refl)) refl typed $
    -- [the box; nothing; the tokens]
    move ! (2 ∷ []) $ split ! $ use1 𝓛 (t₁ ⊛ t₂) (𝓛.lfts.lft_split κ q) $ split ! $ move ! (1 ∷ 2 ∷ []) $ join ! $
    move ! (1 ∷ 0 ∷ []) $ join ! $
    nothing ! $ use0 𝓛 (raw (fact 𝓤 inZ)) (fact_i 𝓤 inZ (emp 𝓤) (⊑_static κ)) $ join ! $
    use0 𝓛 (raw (fact 𝓤 inR)) (fact_i 𝓤 inR (emp 𝓤) inX) $ join ! $
    nothing ! $ move ! (3 ∷ 0 ∷ []) $ fjoin ! $ move ! (2 ∷ 0 ∷ []) $ join ! $ join ! $
    use1 𝓛 (raw (Taken.pre y)) (id⊢ 𝓤 _) $
    calls_at ! (framed 𝓤 H 𝓜 𝓣) Taken known y (and_then ! (get ! refl) (no_more !)) (λ u.
    use1 𝓛 (later (some (λ (p : Ptr). ((t₁ ⊛ t₂ ⊛ ‵ ftrue) ⊛ ‵ (RawPtr.own_val p (u ∷ []))) ⊛
    some (λ (ls : Lasts Ce (κ, (κ, tt)) y.0.3). ‵ (lasts Ce (κ, (κ, tt)) y.0.3 ls) ⊛
    ‵ (box_owns (ghosts.dealloc_token v.alloc) R p v.value))))) (id⊢ 𝓤 _) $
    await ! tt $ pick ! (λ p. split ! $ move ! (1 ∷ []) $ pick ! (λ _. split ! $ drop ! $
    in_a_block ! p (λ s. box_owns (ghosts.dealloc_token v.alloc) R s v.value) (fst∗ 𝓤 (never 𝓤) (sem 𝓛 held_by))
    (λ b' o' e'. let token : Fml = ghosts.dealloc_token v.alloc (bare (lone R.mir)) (block_ptr b' o') in
    fsplit ! $ move ! (1 ∷ []) $ use1 𝓛 (given (o' ≡ 0) (‵ token)) (fact_use 𝓤 (o' ≡ 0)
    (dealloc_token_start 𝓛 v.alloc (bare (lone R.mir)) (block_ptr b' o')) (guard_i 𝓤 (o' ≡ 0) (sem 𝓛 token))) $
    learn ! (λ start.
    let r : Row.Denot = record { at = block_ptr b' o'; alloc = a; held = Some v.value } in
    move ! (1 ∷ 0 ∷ []) $ fjoin ! $ feq_i ! ℕ o' 0 start $ fjoin ! $ move ! (1 ∷ []) $ split ! $ move ! (1 ∷ []) $
    feq_l ! (λ eu.
    -- [the tokens; what the place owns]
    lands_as ! (ap only eu ∙ ap ptr_val e') refl (tt, tt) $
    sets_last ! (agg ! (and_then ! (get ! refl) (and_then ! (get ! refl) (no_more !)))) refl (block_good R b' o') $
    exec ! 𝓣.C 𝓣.Λ Ev (after 1 fn.body) (at_ret Ev Post) $ sets ! (of_opd ! (get ! refl)) refl (block_good R b' o') $
    split3 ! $ use2 𝓛 (‵ (flft κ q)) (𝓛.lfts.lft_join κ q) $ join ! $ move ! (1 ∷ []) $
    owned ! D _ (data_makes R 𝓛) (to (maybe_box.the_type R) r) (word (block_ptr b' o') ∷ []) (data_is R r isH) $
    fjoin ! $
    use0 𝓛 (raw (fact 𝓤 (r.held ≡ boxed_value o))) (fact_i 𝓤 (r.held ≡ boxed_value o) (emp 𝓤)
    (ap boxed_value (sym one))) $ nothing ! $ nothing ! $ fjoin ! $ nothing ! $ fjoin ! $
    returns ! (look_at ! 0 refl) $ free_all ! refl $ keep ! (3 ∷ 0 ∷ 2 ∷ 1 ∷ []) $
    by ! (leaves 𝓛 En hs c z (word (block_ptr b' o')) r (tt, (rest (Opt.exit no) o, tt)) (tt, (tt, tt))))))))))))))
