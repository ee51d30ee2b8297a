-- What bytes hold is valid and spelled so, and what is valid and spelled so is held.
use Rattle.std.proofs.Common.{◌≡◌, ◌∙◌, ℕ, List, [], ◌∷◌, ◌++◌, Bool, true, false, refl, sym, ap, subst}
use Rattle.std.specs.Prelude.{Option, None, Some, Result, Err, MatchResult, if◌then◌else◌, option_and_then}
use Rattle.std.proofs.lemmas.List.{append-nil}
use Rattle.std.proofs.lemmas.Option.{none-some, same_Some}
use Rattle.log_text.specs.declared.line.OpenLine.{OpenLine}
use Rattle.lab_encoding.specs.declared.fault.SnapFault.{SnapFault}
use Rattle.lab_encoding.specs.declared.fault.SnapFault.TheVariants.{Bad, Memory}
use Rattle.lab_encoding.specs.Form.{IsBytes}
use Rattle.lab_state.specs.Lab.{Lab}
use Rattle.lab_state.specs.Valid.{IsLab, IsValid}
use Rattle.lab_snap.specs.declared.lab.SavedLab.{SavedLab}
use Rattle.lab_snap.specs.Inner.DecidedParts.{valid_decided}
use Rattle.lab_snap.specs.Inner.Parts.{AreValid}
use Rattle.lab_snap.specs.Lab.{lab_form, lab_lawful}
use Rattle.lab_snap.specs.Loaded.{loaded}
use Rattle.lab_snap.specs.Saved.{IsSpellable, saved, spelling}
use Rattle.lab_snap.specs.Snapshot.{accepted, snapshot_of}
use Rattle.lab_snap.proofs.LoadedLemmas.{saved_fits, saved_loaded}
use Rattle.lab_snap.proofs.ValidParts.{fit_of, parts_of, valid_of}

-- a clause of `saving_agrees`
abbrev Agrees : Type 0
Agrees = (l : Lab) (ls : List OpenLine) → IsLab l → loaded (saved l ls) ≡ l

-- the law's first clause
abbrev Found : Type 0
Found = (bytes : List ℕ) (l : Lab) (ls : List OpenLine) → IsBytes bytes → snapshot_of bytes ≡ Some (l, ls) →
    IsValid l ls × IsSpellable l ls × (bytes ≡ spelling l ls)

-- what is accepted was all that was read, and can go on
accepted_is : (s : SavedLab) (rest : List ℕ) (x : Lab × List OpenLine) → accepted (s, rest) ≡ Some x →
    (rest ≡ []) × AreValid s × ((loaded s, s.lines) ≡ x)
accepted_is s [] x is = let h = by_answer (valid_decided s).answer refl is in (refl, h.0, h.1)
  where
    by_answer : (b : Bool) → (valid_decided s).answer ≡ b →
        (if b then Some (loaded s, s.lines) else None) ≡ Some x → AreValid s × ((loaded s, s.lines) ≡ x)
    by_answer true can e = ((valid_decided s).decides.0 can, same_Some (loaded s, s.lines) x e)
    by_answer false cannot e = absurd (none-some x e)
accepted_is s (byte ∷ rest) x is = absurd (none-some x is)

pub found : Found
unfolding snapshot_of
found bytes l ls are is = by_read (lab_form.parse bytes) refl is
  where
    by_read : (o : Option (SavedLab × List ℕ)) → lab_form.parse bytes ≡ o → option_and_then accepted o ≡ Some (l, ls) →
        IsValid l ls × IsSpellable l ls × (bytes ≡ spelling l ls)
    by_read None at e = absurd (none-some (l, ls) e)
    by_read (Some (s, rest)) at e =
        let h = accepted_is s rest (l, ls) e in
        let spelled = lab_lawful.takes bytes (s, rest) are at in
        let whole : bytes ≡ lab_form.spell s =
        spelled.0 ∙ ap (λ rest. lab_form.spell s ++ rest) h.0 ∙ append-nil (lab_form.spell s) in
        let again : saved l ls ≡ s =
        ap (λ (x : Lab × List OpenLine). saved x.0 x.1) (sym h.2) ∙ saved_loaded s (fit_of s h.1) in (
          subst (λ (x : Lab × List OpenLine). IsValid x.0 x.1) h.2 (valid_of s h.1),
          subst lab_form.Fits (sym again) spelled.1,
          whole ∙ ap lab_form.spell (sym again),
        )

pub only : Agrees → (l : Lab) (ls : List OpenLine) → IsValid l ls → IsSpellable l ls →
    snapshot_of (spelling l ls) ≡ Some (l, ls)
unfolding snapshot_of
only agrees l ls valid fits =
    let s : SavedLab = saved l ls in
    let again : loaded s ≡ l = agrees l ls valid.lab in
    let are : AreValid s =
    parts_of s (saved_fits l ls valid.lab) (subst (λ (l : Lab). IsValid l ls) (sym again) valid) in
    let answer : (valid_decided s).answer ≡ true = (valid_decided s).decides.1 are in
    let read : lab_form.parse (lab_form.spell s) ≡ Some (s, []) =
    ap lab_form.parse (sym (append-nil (lab_form.spell s))) ∙ lab_lawful.again s [] fits in
    ap (option_and_then accepted) read
    ∙ ap (λ (b : Bool). if b then Some (loaded s, ls) else None) answer
    ∙ ap (λ (l : Lab). Some (l, ls)) again

-- bytes that were refused hold nothing
pub none_held : Found → (bytes : List ℕ) (result : Result (Unit {0}) SnapFault) (P : Lab → List OpenLine → Type 0) →
    IsBytes bytes →
    ((l : Lab) (ls : List OpenLine) → IsValid l ls → IsSpellable l ls → bytes ≡ spelling l ls →
    MatchResult result (λ done. P l ls) (λ fault. fault ≡ Memory)) →
    result ≡ Err Bad → snapshot_of bytes ≡ None
none_held found bytes result P are loads bad = by_held (snapshot_of bytes) refl
  where
    by_held : (o : Option (Lab × List OpenLine)) → snapshot_of bytes ≡ o → o ≡ None
    by_held None is = refl
    by_held (Some (l, ls)) is =
        let h = found bytes l ls are is in
        let never : Bad ≡ Memory =
        subst (λ (r : Result (Unit {0}) SnapFault). MatchResult r (λ done. P l ls) (λ fault. fault ≡ Memory)) bad
        (loads l ls h.0 h.1 h.2) in
        absurd (cc)
