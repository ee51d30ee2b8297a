-- Two runs of a script come to one.
use Rattle.std.proofs.Common.{◌≡◌, ◌∙◌, ◌+◌, ◌%◌, ◌<◌, ◌++◌, ℕ, Bool, true, false, List, None, Ok}
use Rattle.std.proofs.Common.{refl, ap}
use Rattle.log_merge.specs.declared.item.LogItem.{LogItem}
use Rattle.log_merge.specs.declared.names.Names.{Names}
use Rattle.log_text.specs.declared.line.OpenLine.{OpenLine}
use Rattle.log_text.specs.Log.{open_lines, text}
use Rattle.lab_state.specs.Lab.{Lab}
use Rattle.lab_state.specs.Names.{names}
use Rattle.lab_state.specs.Round.{Rounded}
use Rattle.lab_state.specs.Run.{run, followed_by}
use Rattle.monitor.specs.Answer.{Done, leaves}
use Rattle.monitor.specs.Refusal.{◌>>=◌}
use Rattle.monitor.specs.Runs.{has_run, length_of, run_for}
use Rattle.monitor.specs.State.{State}
use Rattle.lab_state.proofs.RunLemmas.{run_none}
use Rattle.lab_top.proofs.Settings.{passed}

-- what a run that is not refused has done
ran : (s : State) (length : ℕ) (done : Done) → run_for run s length ≡ Ok done →
    done ≡ has_run s (run s.lab (length_of s length))
ran s length done is = passed _ _ _ done is

module _ (joins : (lab : Lab) (d e : ℕ) → 0 < lab.quantum → d % lab.quantum ≡ 0 → (run lab d).paused ≡ None →
    run lab (d + e) ≡ followed_by (run lab d) (run (run lab d).lab e))
    (keeps : (lab : Lab) (d : ℕ) → names (run lab d).lab ≡ names lab)
    (prints : (shown : Names) (lines : List OpenLine) (items more : List LogItem) →
    text shown lines (items ++ more) ≡ text shown lines items ++ text shown (open_lines lines items) more)
    (opens : (lines : List OpenLine) (items more : List LogItem) →
    open_lines lines (items ++ more) ≡ open_lines (open_lines lines items) more) where
  -- what two lists of items print one after another, the first under names of its own that are the same
  prints_both : (s : State) (one two : Rounded) → names two.lab ≡ names one.lab →
      has_run s (followed_by one two)
      ≡ record {
        text = (has_run s one).text ++ (has_run (has_run s one).state two).text;
        state = (has_run (has_run s one).state two).state;
      }
  prints_both s one two same =
      rw (prints (names two.lab) s.lines one.items two.items, opens s.lines one.items two.items, same) refl

  joined_by : (s : State) (d e : ℕ) → 0 < s.lab.quantum → d % s.lab.quantum ≡ 0 → (run s.lab d).paused ≡ None →
      has_run s (run s.lab (d + e))
      ≡ record {
        text =
            (has_run s (run s.lab d)).text
            ++ (has_run (has_run s (run s.lab d)).state (run (run s.lab d).lab e)).text;
        state = (has_run (has_run s (run s.lab d)).state (run (run s.lab d).lab e)).state;
      }
  joined_by s d e some whole on =
      ap (has_run s) (joins s.lab d e some whole on)
      ∙ prints_both s (run s.lab d) (run (run s.lab d).lab e) (keeps (run s.lab d).lab e)

  -- what a run of a state does that is asked for with this length
  abbrev runs_so : ℕ → Done → Done
  runs_so length done = has_run done.state (run done.state.lab (length_of done.state length))

  stays : (s : State) (length : ℕ) → s.dry ≡ true →
      has_run s (run s.lab (length_of s length)) ≡ leaves s
  stays s length dry = rw (dry, run_none s.lab) refl

  goes : (s : State) (length : ℕ) → s.dry ≡ false →
      has_run s (run s.lab (length_of s length)) ≡ has_run s (run s.lab length)
  goes s length wet = rw wet refl

  joined : (dry : Bool) (s : State) (d e : ℕ) (first second both : Done) → s.dry ≡ dry →
      0 < s.lab.quantum → d % s.lab.quantum ≡ 0 → (run s.lab d).paused ≡ None →
      first ≡ has_run s (run s.lab (length_of s d)) → second ≡ runs_so e first →
      both ≡ has_run s (run s.lab (length_of s (d + e))) →
      both ≡ record { text = first.text ++ second.text; state = second.state }
  joined true s d e first second both is some whole on one two all =
      let same : first ≡ leaves s = one ∙ stays s d is in
      let again : second ≡ leaves s = two ∙ ap (runs_so e) same ∙ stays s e is in
      all ∙ stays s (d + e) is ∙ rw (same, again) refl
  joined false s d e first second both is some whole on one two all =
      let mid = has_run s (run s.lab d) in
      let same : first ≡ mid = one ∙ goes s d is in
      let again : second ≡ has_run mid.state (run mid.state.lab e) =
      two ∙ ap (runs_so e) same ∙ goes mid.state e is in
      all ∙ goes s (d + e) is ∙ joined_by s d e some whole on ∙ rw (same, again) refl

  pub runs_joined : (s : State) (d e : ℕ) (first second both : Done) →
      0 < s.lab.quantum → d % s.lab.quantum ≡ 0 → (run s.lab d).paused ≡ None →
      run_for run s d ≡ Ok first → run_for run first.state e ≡ Ok second → run_for run s (d + e) ≡ Ok both →
      both ≡ record { text = first.text ++ second.text; state = second.state }
  runs_joined s d e first second both some whole on one two all =
      joined s.dry s d e first second both refl some whole on
      (ran s d first one) (ran first.state e second two) (ran s (d + e) both all)
