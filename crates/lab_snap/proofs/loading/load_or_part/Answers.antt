-- A valid laboratory that is spelled there was read, and is what was made.
use Rattle.std.proofs.Common.{◌≡◌, ◌∙◌, List, Option, Some, None, ap, false}
use Rattle.std.specs.Prelude.{IsTrue, if◌then◌else◌}
use Rattle.std.proofs.lemmas.Result.{err_from_is_err_and}
use Rattle.log_text.specs.declared.line.OpenLine.{OpenLine}
use Rattle.log_text.specs.Line.{are_unended}
use Rattle.lab_snap.specs.declared.lab.SavedLab.{SavedLab}
use Rattle.lab_snap.specs.Loaded.{loaded}
use Rattle.lab_snap.specs.Saved.{saved}
use Rattle.lab_snap.proofs.loading.load_or_part.Goals as goal

-- lines that stand open together
opened : (lines list held : List OpenLine) {made : Option (List OpenLine)} → list ≡ lines →
    IsTrue (are_unended lines) → made ≡ (if are_unended list then Some list else None) → made ≡ Some held →
    held ≡ lines
opened lines list held {made = made} same unended of is =
    let here : made ≡ (if are_unended lines then Some lines else None) = rw same at of in
    let some : made ≡ Some lines = rw unended at here in
    cc

pub returns-in_err-saved-clause-only : goal.returns-in_err-saved-clause-only
returns-in_err-saved-clause-only g c = λ l ls valid fits is.
    let p = err_from_is_err_and c.from_residual.result c.from_residual.ensures.1 in
    let again = c.saving_agrees.ensures.loaded l ls valid.lab in
    rw (p.1, p.2)
    (c.in_err-saved.ensures.only (saved l ls) fits is (c.saving_agrees.ensures.fit l ls valid.lab) (rw again valid))

pub returns-clause-only : goal.returns-clause-only
returns-clause-only g c = λ l ls valid fits is.
    let again = c.saving_agrees.ensures.loaded l ls valid.lab in
    let same : c.in_ok-saved.saved ≡ saved l ls =
    c.in_ok-saved.ensures.only (saved l ls) fits is (c.saving_agrees.ensures.fit l ls valid.lab) (rw again valid) in
    let lab : loaded c.in_ok-saved.saved ≡ l = ap loaded same ∙ again in
    let lines : c.in_ok-saved.saved.lines ≡ ls = ap (λ (s : SavedLab). s.lines) same in (
      c.in_ok-list.ensures.lab ∙ (λ i. record { lab = lab i; spent = false }),
      opened ls c.in_ok-list.list.items c.unwrap.result (c.in_ok-list.ensures.lines ∙ lines) valid.lines.unended
          c.of.ensures c.unwrap.ensures,
    )
