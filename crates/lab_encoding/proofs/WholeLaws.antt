-- What is loaded is spelled so, and what is spelled so is loaded.
use Rattle.std.proofs.Common.{◌≡◌, ◌∙◌, ◌==◌, ℕ, List, [], ◌++◌, length, Some}
use Rattle.std.proofs.Common.{refl, sym, ap, subst}
use Rattle.std.specs.Prelude.{Result, Ok, Err, MatchResult, IfOk}
use Rattle.std.proofs.lemmas.Bool.{eqb-true}
use Rattle.std.proofs.lemmas.List.{append-nil, nil_from_length}
use Rattle.std.proofs.lemmas.Option.{none-some, same_Some, cond_some}
use Rattle.lab_encoding.specs.declared.fault.SnapFault.{SnapFault}
use Rattle.lab_encoding.specs.declared.fault.SnapFault.TheVariants.{Bad, Memory}
use Rattle.lab_encoding.specs.Form.{Form, IsBytes, IsLawful, Spells}
use Rattle.lab_encoding.specs.Inner.Whole.{Gives, value_of, whole}
use Rattle.lab_encoding.specs.Inner.Laws.{bind_some}

whole_spelled : {X : Type 0} (f : Form X) (bytes : List ℕ) (read : X × List ℕ) (x : X) → Spells f bytes read →
    whole read ≡ Some x → f.Fits x × (bytes ≡ f.spell x)
whole_spelled {X} f bytes read x spelled e =
    let k = cond_some (length read.1 == 0) read.0 x e in
    let none : read.1 ≡ [] = nil_from_length read.1 (eqb-true _ _ k.0) in
    let parts : bytes ≡ f.spell read.0 =
    spelled.0 ∙ ap (λ (l : List ℕ). f.spell read.0 ++ l) none ∙ append-nil (f.spell read.0) in
    subst (λ (y : X). f.Fits y × (bytes ≡ f.spell y)) k.1 (spelled.1, parts)

pub found : {X : Type 0} (f : Form X) → IsLawful f → (bytes : List ℕ) (result : Result X SnapFault) → IsBytes bytes →
    Gives (value_of f bytes) result → IfOk result (λ x. f.Fits x × (bytes ≡ f.spell x))
found f law bytes (Ok x) are e =
    let a = bind_some (f.parse bytes) whole x e in
    whole_spelled f bytes a.0 x (law.takes bytes a.0 are a.1) a.2
found f law bytes (Err fault) are e = tt

value_again : {X : Type 0} (f : Form X) → IsLawful f → (x : X) → f.Fits x → value_of f (f.spell x) ≡ Some x
value_again f law x fits =
    let read : f.parse (f.spell x) ≡ Some (x, []) =
    ap f.parse (sym (append-nil (f.spell x))) ∙ law.again x [] fits in
    rw read refl

pub only : {X : Type 0} (f : Form X) → IsLawful f → (bytes : List ℕ) (result : Result X SnapFault) →
    Gives (value_of f bytes) result → (x : X) → f.Fits x → bytes ≡ f.spell x →
    MatchResult result (λ loaded. loaded ≡ x) (λ fault. fault ≡ Memory)
only f law bytes (Ok loaded) e x fits is =
    same_Some loaded x (sym e ∙ ap (value_of f) is ∙ value_again f law x fits)
only f law bytes (Err Bad) e x fits is =
    absurd (none-some x (sym e ∙ ap (value_of f) is ∙ value_again f law x fits))
only f law bytes (Err Memory) e x fits is = refl
