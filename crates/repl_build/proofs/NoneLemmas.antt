-- What holds where no fault is found.
use Rattle.std.proofs.Common.{◌≡◌, Bool, true, false, refl, List, [], ◌∷◌, ◌++◌, Option, None, Some, find, cond}
use Rattle.std.proofs.lemmas.Option.{same_Some}
use Rattle.repl_read.specs.declared.fault.PlatFault.{PlatFault}
use Rattle.repl_build.specs.declared.merge.Peripheral.{Peripheral}
use Rattle.repl_build.specs.declared.rules.Rule.{Rule}
use Rattle.repl_build.specs.First.{fault_if, first_of, first_fault}
use Rattle.repl_build.specs.Rules.{breaks, items_fault, peripheral_fault}

pub no_fault : (b : Bool) (fault : PlatFault) → fault_if b fault ≡ None → b ≡ false
no_fault true fault is = absurd (cc)
no_fault false fault is = refl

pub first_none : (a b : Option PlatFault) → first_of a b ≡ None → (a ≡ None) × (b ≡ None)
first_none None b is = (refl, is)
first_none (Some fault) b is = absurd (cc)

-- a peripheral without a fault
pub unbroken :
    (rule : Rule) (all before : List Peripheral) (p : Peripheral) → peripheral_fault rule all before p ≡ None →
    (breaks rule before p ≡ false) × (items_fault rule all before p ≡ None)
unbroken rule all before p none =
    let parts = first_none _ _ none in
    (no_fault (breaks rule before p) _ parts.0, parts.1)

-- what is found in a list without a fault has none
pub found_sound :
    {X : Type 0} (f : List X → X → Option PlatFault) (test : X → Bool) (before xs : List X) (x : X) →
    first_fault f before xs ≡ None → find test xs ≡ Some x → (test x ≡ true) × ((b : List X) × (f b x ≡ None))
found_sound f test before [] x none found = absurd (cc)
found_sound {X} f test before (y ∷ ys) x none found =
    let parts = first_none _ _ none in
    elim (test y) as (λ b. test y ≡ b → cond {A = Option X} b (Some y) (find test ys) ≡ Some x →
    (test x ≡ true) × ((b : List X) × (f b x ≡ None))) [
      | true ↦ λ passes same.
          let is : y ≡ x = same_Some _ _ same in
          (rw (← is) passes, (before, rw (← is) parts.0))
      | false ↦ λ fails later. found_sound f test (before ++ y ∷ []) ys x parts.1 later
    ] refl found
