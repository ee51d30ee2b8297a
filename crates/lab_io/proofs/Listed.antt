-- A slice's `contains`, at numbers, in terms of `Contains`.
use Rattle.std.proofs.Common.{◌≡◌, ◌↔◌, ℕ, List, Bool, nat_eq, IsTrue, Contains, sym, ◌∙◌}
use Rattle.std.specs.List.{list_any}
use Rattle.std.proofs.lemmas.Bool.{eq-eqb, eqb-true}
use Rattle.std.proofs.lemmas.List.Folds.{list_any_at}
use Rattle.std.proofs.lemmas.Map.Views.{Contains-from_any}

-- a comparison with each number finds a number exactly where it is among them
pub listed : (is : Bool) (xs : List ℕ) (x : ℕ) → is ≡ list_any (λ y. nat_eq y x) xs → IsTrue is ↔ Contains xs x
listed is xs x tested = (
  λ h. Contains-from_any {eq = λ a b. nat_eq b a} (λ a b e. sym (eqb-true b a e)) x xs (sym tested ∙ h),
  λ at. tested ∙ list_any_at (λ y. nat_eq y x) xs at.0 x at.1 (eq-eqb _ _ at.2),
)
