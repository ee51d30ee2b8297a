-- The processors of peripherals that keep all rules are equally fast.
use Rattle.std.proofs.Common.{◌≡◌, ◌∙◌, ℕ, ◌+◌, ◌*◌, ◌%◌, ◌==◌, ◌≤◌, Bool, true, false, not, ◌&&◌, ◌||◌, refl, sym, ap}
use Rattle.std.proofs.Common.{List, [], ◌∷◌, ◌++◌, Option, None, Some, arith, cond, codes, nat_lt, suc}
use Rattle.std.proofs.Common.{append_assoc, subst}
use Rattle.std.proofs.lemmas.Bool.Decides.{nat_tests}
use Rattle.std.proofs.lemmas.List.{append-nil}
use Rattle.std.proofs.lemmas.List.Folds.{find-append}
use Rattle.std.proofs.lemmas.List.Sums.{sum_by_push}
use Rattle.std.proofs.Math.Nat.{mul-mod_right, suc-mul}
use Rattle.std.specs.List.{sum_by}
use Rattle.std.specs.Option.{option_or}
use Rattle.std.proofs.lemmas.Bool.{and_from, le-leb}
use Rattle.sys_bus.specs.Limits as limit
use Rattle.sys_bus.specs.Limits.{most_speed}
use Rattle.repl_build.specs.declared.merge.Peripheral.{Peripheral}
use Rattle.repl_build.specs.declared.merge.PlacedItem.{PlacedItem}
use Rattle.repl_build.specs.declared.rules.Rule.TheVariants.{Values}
use Rattle.repl_build.specs.declared.types.PeripheralType.TheVariants.{Cpu}
use Rattle.repl_build.specs.Attributes.{item_of, sort_of}
use Rattle.repl_build.specs.Counts.{count_of, first_with}
use Rattle.repl_build.specs.Names.{has_key}
use Rattle.repl_build.specs.Processors.{speed_of, is_refused_in, has_no_speed, has_other_speed}
use Rattle.repl_build.specs.Rules.{item_fault, items_fault}
use Rattle.repl_build.specs.Types.{is_type}
use Rattle.repl_build.proofs.ListLemmas.{count_push}
use Rattle.repl_build.proofs.NoneLemmas.{no_fault, found_sound}
use Rattle.repl_build.proofs.NumberLemmas.{IsBetween, number_within}
use Rattle.repl_build.proofs.SoundLemmas.{Fits, Sound}
use Rattle.repl_build.proofs.TypeLemmas.{is_type_same}

-- a processor's own speed is not refused
not_refused :
    (all before : List Peripheral) (p : Peripheral) (o : Option PlacedItem) →
    item_of (codes "PerformanceInMips") p.items ≡ o → items_fault Values all before p ≡ None →
    is_refused_in before p o ≡ false
not_refused all before p None is none = refl
not_refused all before p (Some item) is none =
    let sound = found_sound (item_fault Values all before p) (λ i. has_key (codes "PerformanceInMips") i.what) []
    p.items item none is in
    no_fault _ _ sound.1.1

-- a processor's speed is within its limits
fast : (all before : List Peripheral) (p : Peripheral) → is_type Cpu p.kind ≡ true →
    items_fault Values all before p ≡ None → IsBetween 1 1000 (speed_of p)
fast all before p is none =
    let kind = is_type_same Cpu p.kind is in
    let own = number_within p all before (codes "PerformanceInMips") 1 1000 100
    (ap (λ o. sort_of o (codes "PerformanceInMips")) kind) none (λ none. (omega arith, omega arith)) in
    rw is own

in_step :
    (a b c d : Bool) → (a && not b && (c || d)) ≡ false → a ≡ true → b ≡ false → (c ≡ false) × (d ≡ false)
in_step true false true d is one two = absurd (cc)
in_step true false false d is one two = (refl, is)
in_step true true c d is one two = absurd (cc)
in_step false b c d is one two = absurd (cc)

-- a processor that keeps the rules is as fast as the first, and all are not too fast
even_one : (all before : List Peripheral) (p : Peripheral) → Fits all before p → is_type Cpu p.kind ≡ true →
    (has_other_speed (first_with Cpu before) p ≡ false)
    × (nat_lt most_speed (speed_of p + sum_by speed_of before) ≡ false)
even_one all before p fits is =
    in_step (is_type Cpu p.kind) (has_no_speed before p) (has_other_speed (first_with Cpu before) p)
    (nat_lt most_speed (speed_of p + sum_by speed_of before)) fits.step is
    (not_refused all before p (item_of (codes "PerformanceInMips") p.items) refl fits.values)

-- so many processors, of which the first is this one, are as fast together
abbrev pub AreEven : Option Peripheral → ℕ → ℕ → Type 0
AreEven None count sum = (count ≡ 0) × (sum ≡ 0)
AreEven (Some first) count sum = (sum ≡ count * speed_of first) × (1 ≤ speed_of first)

abbrev pub Even : List Peripheral → Type 0
Even ps = AreEven (first_with Cpu ps) (count_of ps Cpu) (sum_by speed_of ps) × (sum_by speed_of ps ≤ most_speed)

same_speed : (m n : ℕ) → not (m == n) ≡ false → m ≡ n
same_speed m n is = grind (arith, nat_tests)

even_more :
    (o : Option Peripheral) (p : Peripheral) (b : Bool) (count sum more total : ℕ) →
    more ≡ count + cond {A = ℕ} b 1 0 → total ≡ sum + speed_of p → (b ≡ true → 1 ≤ speed_of p) →
    (b ≡ false → speed_of p ≡ 0) → (b ≡ true → has_other_speed o p ≡ false) → AreEven o count sum →
    AreEven (option_or o (cond {A = Option Peripheral} b (Some p) None)) more total
even_more None p true count sum more total one two own none same even =
    let here : more ≡ 1 = omega (arith, one, even.0) in
    let all : total ≡ speed_of p = omega (arith, two, even.1) in
    (rw (here, all) (omega arith), own refl)
even_more None p false count sum more total one two own none same even =
    let zero = none refl in
    (omega (arith, one, even.0), omega (arith, two, even.1, zero))
even_more (Some first) p true count sum more total one two own none same even =
    let equal : speed_of p ≡ speed_of first = same_speed (speed_of p) (speed_of first) (same refl) in
    let next : more ≡ suc count = omega (arith, one) in
    let all : total ≡ count * speed_of first + speed_of first = omega (arith, two, even.0, equal) in
    (rw next (all ∙ sym (suc-mul count (speed_of first))), even.1)
even_more (Some first) p false count sum more total one two own none same even =
    let zero = none refl in
    let next : more ≡ count = omega (arith, one) in
    let all : total ≡ sum = omega (arith, two, zero) in
    (rw (next, all) even.0, even.1)

first_push : (before : List Peripheral) (p : Peripheral) →
    first_with Cpu (before ++ p ∷ [])
    ≡ option_or (first_with Cpu before) (cond {A = Option Peripheral} (is_type Cpu p.kind) (Some p) None)
first_push before p = find-append (λ q. is_type Cpu q.kind) before (p ∷ [])

no_speed : (p : Peripheral) → is_type Cpu p.kind ≡ false → speed_of p ≡ 0
no_speed p is = rw is refl

total_more :
    (b : Bool) (own sum total : ℕ) → total ≡ sum + own → (b ≡ false → own ≡ 0) →
    (b ≡ true → nat_lt most_speed (own + sum) ≡ false) → sum ≤ most_speed → total ≤ most_speed
total_more true own sum total is none fits few =
    let low : nat_lt most_speed (own + sum) ≡ false = fits refl in
    grind (arith, nat_tests)
total_more false own sum total is none fits few = let zero = none refl in omega (arith, is, zero, few)

even_push : (all before : List Peripheral) (p : Peripheral) → Fits all before p → Even before → Even (before ++ p ∷ [])
even_push all before p fits even =
    let b = is_type Cpu p.kind in
    let sum = sum_by_push speed_of before p in
    let count = count_push (λ q. is_type Cpu q.kind) before p in
    let parts = even_one all before p fits in (
      rw (first_push before p)
          (even_more (first_with Cpu before) p b (count_of before Cpu) (sum_by speed_of before)
          (count_of (before ++ p ∷ []) Cpu) (sum_by speed_of (before ++ p ∷ [])) count sum
          (λ is. (fast all before p is fits.values).0) (no_speed p) (λ is. (parts is).0) even.0),
      total_more b (speed_of p) (sum_by speed_of before) (sum_by speed_of (before ++ p ∷ [])) sum (no_speed p)
          (λ is. (parts is).1) even.1,
    )

even_from : (all before xs : List Peripheral) → Sound all before xs → Even before → Even (before ++ xs)
even_from all before [] sound even = rw append-nil even
even_from all before (p ∷ ps) sound even =
    rw (← append_assoc before (p ∷ []) ps)
    (even_from all (before ++ p ∷ []) ps sound.1 (even_push all before p sound.0 even))

pub even : (all : List Peripheral) → Sound all [] all → Even all
even all sound = even_from all [] all sound ((refl, refl), omega arith)

mod_none : (count n : ℕ) → (count * n % count == 0) ≡ true
mod_none count n = rw (mul-mod_right count n) refl

speed_within :
    (o : Option Peripheral) (count sum : ℕ) → AreEven o count sum → sum ≤ most_speed → 1 ≤ count →
    limit.is_speed count sum ≡ true
speed_within None count sum even few some = absurd (omega (arith, even.0, some))
speed_within (Some first) count sum even few some =
    let one : 1 ≤ sum = rw even.0 (positive count (speed_of first) some even.1) in
    and_from _ _ (and_from _ _ (le-leb 1 sum one) (le-leb sum most_speed few))
    (rw even.0 (mod_none count (speed_of first)))
  where
    positive : (m n : ℕ) → 1 ≤ m → 1 ≤ n → 1 ≤ m * n
    positive m n one two = grind arith

-- so many processors may have this speed
pub speed_good : (all : List Peripheral) → Sound all [] all → 1 ≤ count_of all Cpu →
    limit.is_speed (count_of all Cpu) (sum_by speed_of all) ≡ true
speed_good all sound some =
    let even = even all sound in
    speed_within (first_with Cpu all) (count_of all Cpu) (sum_by speed_of all) even.0 even.1 some

-- together they are as fast as the first, so many times
pub speed_product : (all : List Peripheral) (first : Peripheral) → Sound all [] all → first_with Cpu all ≡ Some first →
    sum_by speed_of all ≡ count_of all Cpu * speed_of first
speed_product all first sound is =
    (subst (λ o. AreEven o (count_of all Cpu) (sum_by speed_of all)) is (even all sound).0).0

pub speed_nothing : (all : List Peripheral) → Sound all [] all → first_with Cpu all ≡ None → sum_by speed_of all ≡ 0
speed_nothing all sound is =
    (subst (λ o. AreEven o (count_of all Cpu) (sum_by speed_of all)) is (even all sound).0).1
