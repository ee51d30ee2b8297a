-- What a run is refused for its check is refused for.
use Rattle.std.proofs.Common.{◌≡◌, ◌∷◌, ◌∙◌, ◌||◌, ◌==◌, ◌≤◌, ℕ, zero, suc, not, if◌then◌else◌, Bool}
use Rattle.std.proofs.Common.{true, false}
use Rattle.std.proofs.Common.{List, [], length, map, Option, None, Some, refl, sym, ap, subst, inl, inr, arith}
use Rattle.std.specs.FinMap.{get, insert}
use Rattle.std.specs.Prelude.{option_and_then}
use Rattle.std.proofs.lemmas.Bool.Decides.{nat_tests}
use Rattle.lab_io.specs.Held.{Held}
use Rattle.lab_io.specs.Store.{StoreUse, get_of, put_of}
use Rattle.lab_snap.specs.Saved.{spelling}
use Rattle.lab_snap.specs.Snapshot.{snapshot_of}
use Rattle.lab_state.specs.Lab.{Lab}
use Rattle.lab_state.specs.Run.{run}
use Rattle.log_text.specs.declared.line.OpenLine.{OpenLine}
use Rattle.resc_vars.specs.declared.cause.ScriptCause.TheVariants.{Size, Occupied}
use Rattle.monitor.specs.declared.fault.ScriptFault.{ScriptFault}
use Rattle.monitor.specs.declared.setting.Setting.{Setting}
use Rattle.monitor.specs.Answer.{Answer, Goes, Saves, Loads, Ends, Faults, Misses, Did}
use Rattle.monitor.specs.Command.{did}
use Rattle.monitor.specs.State.{State, LinePlace, bodies_of, joined, started}
use Rattle.lab_top.specs.Content.{Content, Missing, Faulty, Readable, content_of}
use Rattle.lab_top.specs.Headline.{calls}
use Rattle.lab_top.specs.Request.{Request, Run, checking}
use Rattle.lab_top.specs.Transcript.{Script, Further, Use, answered, begun, from, is_large, is_occupied, loading}
use Rattle.lab_top.specs.Transcript.{loading_kept, onward, refused, resuming, saving, use_later, using}
use Rattle.lab_top.proofs.Courses.{calls-later}
use Rattle.check_laws.specs.Checked.{IsCheckOf, IsFound, IsToBeFound}
use Rattle.check_laws.specs.Coming.{GetsOld, SavesFit, ScriptFits, Standpoint, after_answer}
use Rattle.check_laws.specs.Coming.{comes_to, standpoint}
use Rattle.check_laws.proofs.LineLemmas.{did_found}
use Rattle.check_laws.proofs.RunLemmas.{IsLater}
use Rattle.check_laws.proofs.SameLemmas.{begins_alike, joined_alike, length_same}

-- ---- of calls on a store

module _ (old kept : Held) where
  gets_later : (n : ℕ) (uses : List Use) → GetsOld old kept (calls (map (use_later n) uses)) →
      GetsOld old kept (calls uses)
  gets_later n uses gets = subst (GetsOld old kept) (calls-later n uses) gets

  gets_after_put : (name bytes : List ℕ) (used : List StoreUse) → GetsOld old kept (put_of name bytes ∷ used) →
      GetsOld old (insert kept name bytes) used
  gets_after_put name bytes used gets done more of is =
      gets (put_of name bytes ∷ done) more of (ap (λ used. put_of name bytes ∷ used) is)

  gets_after_get : (name : List ℕ) (used : List StoreUse) → GetsOld old kept (get_of name ∷ used) →
      GetsOld old kept used
  gets_after_get name used gets done more of is =
      gets (get_of name ∷ done) more of (ap (λ used. get_of name ∷ used) is)

-- ---- of what is refused

same_fault : (one two : ScriptFault) → Script one ≡ Script two → one ≡ two
same_fault one two is = cc

-- with no more time nothing more is occupied
none_left : (now less : ℕ) → less ≤ now → not (now == 0) ≡ false → not (less == 0) ≡ false
none_left now less no_more none = grind (arith, nat_tests, no_more, none)

free_by : (a b c d : Bool) → (c ≡ false → d ≡ false) → (a || b || c) ≡ false → (a || b || d) ≡ false
free_by true b c d less is = absurd (cc)
free_by false true c d less is = absurd (cc)
free_by false false true d less is = absurd (cc)
free_by false false false d less is = less refl

not_occupied : (s t : State) → IsCheckOf s t → is_occupied s.lab ≡ false → is_occupied t.lab ≡ false
not_occupied s t alike is =
    rw (length_same s t alike, alike.hubs)
    (free_by (not (length s.lab.boards == 0)) (not (length s.lab.hubs == 0)) (not (s.lab.now == 0))
    (not (t.lab.now == 0)) (none_left s.lab.now t.lab.now alike.now) is)

module _ (runs : (lab : Lab) (d : ℕ) → IsLater lab (run lab d).lab) (held : Held) (fault : ScriptFault)
    (known : IsToBeFound fault) where
  fits_next : (here next : Standpoint) → after_answer here.kept (did run held here.state).answer ≡ Some next →
      SavesFit held here.kept here.state → SavesFit held next.kept next.state
  fits_next here next is fits n there name place after comes saves =
      fits (suc n) there name place after (ap (option_and_then (comes_to held n)) is ∙ comes) saves

  -- what is left of a run finds, in the check, the fault that it ends with
  abbrev Finds : Further → Type 0
  Finds further =
      (kept stored : Held) (s t : State) → IsCheckOf s t → SavesFit held kept s → SavesFit held stored t →
      GetsOld stored kept (calls (further kept s).uses) → (further kept s).outcome ≡ Script fault →
      (further stored t).outcome ≡ Script fault

  module _ (further : Further) (rest : Finds further) (kept stored : Held) (s t : State)
      (fits : SavesFit held kept s) (checked_fits : SavesFit held stored t) where
    module _ (name : List ℕ) (place of_place : LinePlace) (of : List ℕ) (next after : State)
        (alike : IsCheckOf next after)
        (is : (did run held s).answer ≡ Saves name place next)
        (also : (did run held t).answer ≡ Saves of of_place after) where
      small : is_large (spelling next.lab next.lines) ≡ false
      small = fits 0 (standpoint kept s) name place next refl is

      checked_small : is_large (spelling after.lab after.lines) ≡ false
      checked_small = checked_fits 0 (standpoint stored t) of of_place after refl also

      checked_next : SavesFit held stored after
      checked_next =
          let goes : after_answer stored (did run held t).answer ≡ Some (standpoint stored after) =
          ap (after_answer stored) also ∙ rw (checked_small, alike.dry) refl in
          fits_next (standpoint stored t) (standpoint stored after) goes checked_fits

      abbrev spelled : List ℕ
      spelled = spelling next.lab next.lines

      abbrev mine : Held
      mine = insert kept name spelled

      saves_by : (large dry : Bool) → is_large spelled ≡ large → next.dry ≡ dry →
          GetsOld stored kept
          (calls (if large then refused kept place next Size
          else if dry then further kept next
          else using (put_of name spelled) (further mine next)).uses) →
          (if large then refused kept place next Size
          else if dry then further kept next
          else using (put_of name spelled) (further mine next)).outcome ≡ Script fault →
          (further stored after).outcome ≡ Script fault
      saves_by true dry large is_dry gets out =
          let never : true ≡ false = sym large ∙ small in
          absurd (cc)
      saves_by false true large dry gets out =
          let goes : after_answer kept (did run held s).answer ≡ Some (standpoint kept next) =
          ap (after_answer kept) is ∙ rw (large, dry) refl in
          rest kept stored next after alike
          (fits_next (standpoint kept s) (standpoint kept next) goes fits) checked_next gets out
      saves_by false false large dry gets out =
          let goes : after_answer kept (did run held s).answer ≡ Some (standpoint mine next) =
          ap (after_answer kept) is ∙ rw (large, dry) refl in
          rest mine stored next after alike
          (fits_next (standpoint kept s) (standpoint mine next) goes fits) checked_next
          (gets_after_put stored kept name spelled (calls (further mine next).uses) gets) out

      checks_by : (large dry : Bool) (saved : List ℕ) → large ≡ false → dry ≡ true →
          (further stored after).outcome ≡ Script fault →
          (if large then refused stored of_place after Size
          else if dry then further stored after
          else using (put_of of saved) (further (insert stored of saved) after)).outcome ≡ Script fault
      checks_by true dry saved fit is_dry out = absurd (cc)
      checks_by false true saved fit dry out = out
      checks_by false false saved fit dry out = absurd (cc)

      saves_found : GetsOld stored kept (calls (saving further kept name place next spelled).uses) →
          (saving further kept name place next spelled).outcome ≡ Script fault →
          (saving further stored of of_place after (spelling after.lab after.lines)).outcome ≡ Script fault
      saves_found gets out =
          let saved = spelling after.lab after.lines in
          checks_by (is_large saved) after.dry saved checked_small alike.dry
          (saves_by (is_large spelled) next.dry refl refl gets out)

    module _ (name : List ℕ) (place : LinePlace) (next after : State) (alike : IsCheckOf next after)
        (is : (did run held s).answer ≡ Loads name place next)
        (also : (did run held t).answer ≡ Loads name place after)
        (free : is_occupied next.lab ≡ false) (same : get stored name ≡ get kept name) where
      module _ (bytes : List ℕ) (there : get kept name ≡ Some bytes) (small : is_large bytes ≡ false) where
        resumes_found : (read : Option (Lab × List OpenLine)) → snapshot_of bytes ≡ read →
            GetsOld stored kept (calls (resuming further kept place next read).uses) →
            (resuming further kept place next read).outcome ≡ Script fault →
            (resuming further stored place after read).outcome ≡ Script fault
        resumes_found None none gets out = out
        resumes_found (Some (lab, lines)) read gets out =
            let mine = joined (bodies_of next) lab lines in
            let checks = joined (bodies_of after) lab lines in
            let goes : after_answer kept (did run held s).answer ≡ Some (standpoint kept mine) =
            ap (after_answer kept) is ∙ rw (free, there, small, read) refl in
            let held_there : get stored name ≡ Some bytes = same ∙ there in
            let checked_free : is_occupied after.lab ≡ false = not_occupied next after alike free in
            let checks_go : after_answer stored (did run held t).answer ≡ Some (standpoint stored checks) =
            ap (after_answer stored) also ∙ rw (checked_free, held_there, small, read) refl in
            rest kept stored mine checks (joined_alike next after alike lab lines)
            (fits_next (standpoint kept s) (standpoint kept mine) goes fits)
            (fits_next (standpoint stored t) (standpoint stored checks) checks_go checked_fits) gets out

      sized_found : (bytes : List ℕ) → get kept name ≡ Some bytes → (large : Bool) → is_large bytes ≡ large →
          GetsOld stored kept
          (calls (if large then refused kept place next Size
          else resuming further kept place next (snapshot_of bytes)).uses) →
          (if large then refused kept place next Size
          else resuming further kept place next (snapshot_of bytes)).outcome ≡ Script fault →
          (if large then refused stored place after Size
          else resuming further stored place after (snapshot_of bytes)).outcome ≡ Script fault
      sized_found bytes there true large gets out = out
      sized_found bytes there false small gets out = resumes_found bytes there small (snapshot_of bytes) refl gets out

      kept_found : (there : Option (List ℕ)) → get kept name ≡ there →
          GetsOld stored kept (calls (loading_kept further kept place next there).uses) →
          (loading_kept further kept place next there).outcome ≡ Script fault →
          (loading_kept further stored place after there).outcome ≡ Script fault
      kept_found None none gets out = absurd (cc)
      kept_found (Some bytes) there gets out = sized_found bytes there (is_large bytes) refl gets out

    loads_by : (name : List ℕ) (place : LinePlace) (next after : State) → IsCheckOf next after →
        (did run held s).answer ≡ Loads name place next → (did run held t).answer ≡ Loads name place after →
        (occupied : Bool) → is_occupied next.lab ≡ occupied →
        GetsOld stored kept
        (calls (if occupied then refused kept place next Occupied
        else using (get_of name) (loading_kept further kept place next (get kept name))).uses) →
        (if occupied then refused kept place next Occupied
        else using (get_of name) (loading_kept further kept place next (get kept name))).outcome ≡ Script fault →
        (loading further stored name place after).outcome ≡ Script fault
    loads_by name place next after alike is also true occupied gets out =
        absurd (known.occupied (sym (ap (λ (f : ScriptFault). f.cause) (same_fault _ fault out))))
    loads_by name place next after alike is also false free gets out =
        let used = calls (loading_kept further kept place next (get kept name)).uses in
        let same : get stored name ≡ get kept name = gets [] used name refl in
        let checked_free : is_occupied after.lab ≡ false = not_occupied next after alike free in
        rw (checked_free, same)
        (kept_found name place next after alike is also free same (get kept name) refl
        (gets_after_get stored kept name used gets) out)

    module _ (mine checks : List (List ℕ)) where
      abbrev ran : Answer → Did
      ran answer = record { names = mine; answer = answer }

      abbrev checked : Answer → Did
      checked answer = record { names = checks; answer = answer }

      onward_found : (one two : Answer) → (did run held s).answer ≡ one → (did run held t).answer ≡ two →
          IsFound one two → GetsOld stored kept (calls (onward further kept s (ran one)).uses) →
          (onward further kept s (ran one)).outcome ≡ Script fault →
          (onward further stored t (checked two)).outcome ≡ Script fault
      onward_found (Goes text next) (Goes other after) is also alike gets out =
          rest kept stored next after alike
          (fits_next (standpoint kept s) (standpoint kept next) (ap (after_answer kept) is) fits)
          (fits_next (standpoint stored t) (standpoint stored after) (ap (after_answer stored) also) checked_fits)
          (gets_later stored kept (length text) (further kept next).uses gets) out
      onward_found (Saves name place next) (Saves of at_place after) is also found gets out =
          saves_found name place at_place of next after found.2 is also
          (gets_later stored kept 0 (saving further kept name place next (spelling next.lab next.lines)).uses gets) out
      onward_found (Loads name place next) (Loads of at_place after) is also found gets out =
          let here : (did run held t).answer ≡ Loads name place after =
          also ∙ rw (found.0, found.1) refl in
          rw (found.0, found.1)
          (loads_by name place next after found.2 is here (is_occupied next.lab) refl
          (gets_later stored kept 0 (loading further kept name place next).uses gets) out)
      onward_found Ends two is also found gets out = absurd (cc)
      onward_found (Faults f) two is also (inl time) gets out =
          absurd (known.time (sym (ap (λ (f : ScriptFault). f.cause) (same_fault f fault out)) ∙ time))
      onward_found (Faults f) two is also (inr same) gets out = rw same out
      onward_found Misses two is also found gets out = absurd (cc)
      onward_found _ _ is also found gets out = absurd found

  from_found : (more : ℕ) → Finds (from more run held)
  unfolding from
  from_found zero kept stored s t alike fits checked_fits gets out = absurd (cc)
  from_found (suc more) kept stored s t alike fits checked_fits gets out =
      let mine = did run held s in
      let checks = did run held t in
      onward_found (from more run held) (from_found more) kept stored s t fits checked_fits mine.names checks.names
      mine.answer checks.answer refl refl (did_found runs held s t alike).1 gets out

  pub commands_found : Finds (from 100001 run held)
  commands_found = from_found 100001

  begun_found : (kept stored : Held) (script : List ℕ) (setting : Setting) (content : Content) →
      ((text : List ℕ) → content ≡ Readable text → SavesFit held kept (started script text setting)) →
      ((text : List ℕ) → content ≡ Readable text → SavesFit held stored (started script text checking)) →
      GetsOld stored kept (calls (begun run held kept script setting content).uses) →
      (begun run held kept script setting content).outcome ≡ Script fault →
      (begun run held stored script checking content).outcome ≡ Script fault
  begun_found kept stored script setting Missing fits checked_fits gets out = absurd (cc)
  begun_found kept stored script setting (Faulty f) fits checked_fits gets out = out
  begun_found kept stored script setting (Readable text) fits checked_fits gets out =
      commands_found kept stored (started script text setting) (started script text checking)
      (begins_alike script text setting) (fits text refl) (checked_fits text refl) gets out

  pub script_found : (kept stored : Held) (one two : Request) (script : List ℕ) (setting : Setting) →
      one ≡ Run script setting → two ≡ Run script checking →
      ScriptFits held kept script setting → ScriptFits held stored script checking →
      GetsOld stored kept (calls (answered run held kept one).uses) →
      (answered run held kept one).outcome ≡ Script fault →
      (answered run held stored two).outcome ≡ Script fault
  script_found kept stored one two script setting is also fits checked_fits gets out =
      let content = content_of script (get held script) in
      rw also
      (begun_found kept stored script setting content fits checked_fits
      (gets_later stored kept 0 (begun run held kept script setting content).uses (rw is at gets)) (rw is at out))
