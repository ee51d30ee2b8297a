-- Bytes that spell a valid laboratory were not refused.
use Rattle.std.proofs.Common.{◌≡◌, subst, sym}
use Rattle.std.specs.Prelude.{IsTrue}
use Rattle.lab_state.specs.Valid.{IsValid}
use Rattle.lab_snap.specs.declared.lab.SavedLab.{SavedLab}
use Rattle.lab_snap.specs.Inner.Parts.{FitTheirPlans}
use Rattle.lab_snap.specs.Loaded.{loaded}
use Rattle.lab_snap.proofs.loading.read_valid.Goals as goal

pub returns-then-not-branch-clause-only : goal.returns-then-not-branch-clause-only
returns-then-not-branch-clause-only c = λ s fits is fit valid.
    let same : c.in_ok-saved.saved ≡ s = c.in_ok-saved.ensures.only s fits is in
    let holds : IsTrue c.in_ok-is_valid.field-0 =
    c.in_ok-is_valid.ensures.1
    (subst (λ (s : SavedLab). FitTheirPlans s.boards × IsValid (loaded s) s.lines) (sym same) (fit, valid)) in
    absurd (cc)

pub returns-clause-found : goal.returns-clause-found
returns-clause-found c =
    let found = c.in_ok-saved.ensures.found in
    let is : IsTrue c.in_ok-is_valid.field-0 = cc in
    let holds = c.in_ok-is_valid.ensures.0 is in
    (found.0, found.1, holds.0, holds.1)
