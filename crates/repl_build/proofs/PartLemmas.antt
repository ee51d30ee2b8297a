-- The CLINT and the PLIC of peripherals that keep all rules.
use Rattle.std.proofs.Common.{◌≡◌, ◌∙◌, Bool, true, false, not, ◌&&◌, ◌||◌, refl, sym, ap, List, [], ◌∷◌, Option}
use Rattle.std.proofs.Common.{None, Some, arith, codes, find, cond}
use Rattle.std.specs.List.{list_any}
use Rattle.repl_build.specs.declared.merge.Peripheral.{Peripheral}
use Rattle.repl_build.specs.declared.rules.Rule.TheVariants.{Required}
use Rattle.repl_build.specs.declared.types.PeripheralType.{PeripheralType}
use Rattle.repl_build.specs.declared.types.PeripheralType.TheVariants.{Clint, Plic}
use Rattle.repl_build.specs.Attributes.{sort_of, number_of}
use Rattle.repl_build.specs.Counts.{first_with}
use Rattle.repl_build.specs.Places.{is_registered, has_required, is_lacking}
use Rattle.repl_build.specs.Rules.{peripheral_fault, broken}
use Rattle.repl_build.specs.Types.{is_type}
use Rattle.repl_build.proofs.NoneLemmas.{unbroken, found_sound}
use Rattle.repl_build.proofs.NumberLemmas.{IsBetween, number_within, found_values}
use Rattle.repl_build.proofs.TestedLemmas.{Keeps}

pub both : (a b : Bool) → not (a && b) ≡ false → (a ≡ true) × (b ≡ true)
both true true is = (refl, refl)
both true false is = absurd (cc)
both false b is = absurd (cc)

-- what is not lacking
pub complete :
    (p : Peripheral) → is_lacking p ≡ false → (is_registered p.kind p.at ≡ true) ×
    (has_required p.kind p.at p.items ≡ true)
complete p is = both (is_registered p.kind p.at) (has_required p.kind p.at p.items) is

-- what stands in a list is found
pub any_found : {X : Type 0} (test : X → Bool) (xs : List X) → list_any test xs ≡ true → find test xs ≡ None → ⊥
any_found test [] there none = cc
any_found {X} test (x ∷ xs) there none =
    elim (test x) as (λ b. (b || list_any test xs) ≡ true → cond {A = Option X} b (Some x) (find test xs) ≡ None →
    ⊥) [
      | true ↦ λ there none. cc
      | false ↦ λ there none. any_found test xs there none
    ] there none

found_required :
    (all : List Peripheral) (k : PeripheralType) (p : Peripheral) → broken Required all ≡ None →
    first_with k all ≡ Some p → p.kind ≡ Some k → has_required (Some k) p.at p.items ≡ true
found_required all k p none found is =
    let sound = found_sound (peripheral_fault Required all) (λ p. is_type k p.kind) [] all p none found in
    let whole = complete p (unbroken Required all sound.1.0 p sound.1.1).0 in
    sym (ap (λ o. has_required o p.at p.items) is) ∙ whole.1

-- the numbers of the PLIC
pub plic_numbers :
    (all : List Peripheral) (p : Peripheral) → Keeps all → first_with Plic all ≡ Some p →
    IsBetween 1 127 (number_of (codes "numberOfSources") 0 p.items)
    × IsBetween 1 15 (number_of (codes "numberOfContexts") 1 p.items)
plic_numbers all p keeps found =
    let values = found_values all Plic p keeps.values found in
    let required = found_required all Plic p keeps.required found values.0 in (
      number_within p all values.1.0 (codes "numberOfSources") 1 127 0 (ap (λ o. sort_of o
          (codes "numberOfSources")) values.0) values.1.1
          (λ none. absurd (any_found _ p.items required none)),
      number_within p all values.1.0 (codes "numberOfContexts") 1 15 1 (ap (λ o. sort_of o
          (codes "numberOfContexts")) values.0) values.1.1
          (λ none. (omega arith, omega arith)),
    )

-- the frequency of the CLINT
pub clint_number :
    (all : List Peripheral) (p : Peripheral) → Keeps all → first_with Clint all ≡ Some p →
    IsBetween 1 1000000000 (number_of (codes "frequency") 0 p.items)
clint_number all p keeps found =
    let values = found_values all Clint p keeps.values found in
    let required = found_required all Clint p keeps.required found values.0 in
    number_within p all values.1.0 (codes "frequency") 1 1000000000 0 (ap (λ o. sort_of o (codes "frequency")) values.0)
    values.1.1
    (λ none. absurd (any_found _ p.items required none))
