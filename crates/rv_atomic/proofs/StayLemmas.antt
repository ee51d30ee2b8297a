-- What keeps a reservation.
use Rattle.std.proofs.Common.{◌≡◌, ◌≢◌, ℕ, ◌%◌, ◌<◌, ◌==◌, false, inl, inr, refl, ap, ◌∙◌, sym}
use Rattle.std.proofs.Common.{List, [], ◌∷◌, length, map, arith}
use Rattle.std.specs.Prelude.{Option, Some, None}
use Rattle.std.specs.Option.{option_map_or}
use Rattle.std.proofs.Math.ListN.{get_or-map}
use Rattle.std.proofs.lemmas.Bool.{both_ways, cases_Bool, eq-eqb, eqb-true}
use Rattle.std.proofs.lemmas.List.{get_or-set_same, get_or-set_other, length-map}
use Rattle.rv_hart.specs.declared.csr.Lines.{Lines}
use Rattle.rv_hart.specs.Core.{Core}
use Rattle.rv_exec.specs.Effect.{Effect, Done, effect}
use Rattle.rv_exec.specs.Outcome.{traps}
use Rattle.rv_atomic.specs.declared.atomic.AtomicOp.{AtomicOp}
use Rattle.rv_atomic.specs.declared.atomic.AtomicOp.TheVariants.{Lr, Sc}
use Rattle.rv_atomic.specs.declared.atomic.Atomic.{Atomic}
use Rattle.rv_atomic.specs.declared.shared.Shared.{Shared}
use Rattle.rv_atomic.specs.declared.shared.Shared.TheVariants as shared
use Rattle.rv_atomic.specs.declared.span.Span.{Span}
use Rattle.rv_atomic.specs.AtomicEffect.{SharedEffect, leaves, address, access_fault_cause, atomic_effect, with_word}
use Rattle.rv_atomic.specs.SharedEffect.{after_effect, shared_effect}
use Rattle.rv_atomic.specs.Span.{span_of}
use Rattle.rv_atomic.specs.Watch.{after_store, has_reserved, kept, reaches, reserved}
use Rattle.rv_atomic.specs.History.{HartStep, NoOtherStores, NoOwnPairs, pairs, pairs_by, step_effect, stores_in}
use Rattle.rv_atomic.specs.History.{watch_after}
use Rattle.rv_atomic.proofs.OtherHarts.{put-other}
use Rattle.rv_atomic.proofs.OwnSteps.{inside}

-- where another hart does not store in the word
abbrev StaysBeside : ℕ → ℕ → SharedEffect → Type 0
StaysBeside hart word left = stores_in word left.effect ≡ false → reserved left.watch hart ≡ Some word

store-beside :
    (number at width hart word : ℕ) (watch : List (Option ℕ)) → number ≢ hart → reserved watch hart ≡ Some word →
    reaches at width word ≡ false → reserved (after_store number at width watch) hart ≡ Some word
store-beside number at width hart word watch other is beside =
    let set_other =
    get_or-set_other (map (kept at width) watch) number hart (reserved watch number) None (λ same. other (sym same)) in
    let each = get_or-map (kept at width) watch hart None in
    let stays : kept at width (Some word) ≡ Some word = rw beside refl in
    set_other ∙ (each ∙ (ap (kept at width) is ∙ stays))

effect-beside :
    (number hart word : ℕ) (effect : Effect) (watch : List (Option ℕ)) → number ≢ hart →
    reserved watch hart ≡ Some word → StaysBeside hart word (leaves effect (after_effect number effect watch))
effect-beside number hart word effect watch other is = by_span (span_of effect)
  where
    by_span :
        (span : Option Span) → option_map_or (λ span. reaches span.at span.width word) span false ≡ false →
        reserved (option_map_or (λ span. after_store number span.at span.width watch) span watch) hart ≡ Some word
    by_span None beside = is
    by_span (Some span) beside = store-beside number span.at span.width hart word watch other is beside

word-beside :
    (op : AtomicOp) (core : Core) (number hart word : ℕ) (watch : List (Option ℕ)) (a : Atomic) (there : ℕ) →
    number ≢ hart → reserved watch hart ≡ Some word → StaysBeside hart word (with_word op core number watch a there)
word-beside Lr core number hart word watch a there other is =
    λ beside. put-other number hart (Some (address core a)) watch other ∙ is
word-beside Sc core number hart word watch a there other is =
    elim (cases_Bool (has_reserved watch number (address core a))) [
      | inl on ↦ rw on
          (λ beside.
          put-other number hart None (after_store number (address core a) 4 watch) other ∙
          store-beside number (address core a) 4 hart word watch other is beside)
      | inr off ↦ rw off (λ beside. put-other number hart None watch other ∙ is)
    ]
word-beside _ core number hart word watch a there other is =
    λ beside. store-beside number (address core a) 4 hart word watch other is beside

atomic-beside :
    (memory : ℕ → Option ℕ) (core : Core) (number hart word : ℕ) (watch : List (Option ℕ)) (a : Atomic) →
    number ≢ hart → reserved watch hart ≡ Some word →
    StaysBeside hart word (atomic_effect memory core number watch a)
unfolding atomic_effect
atomic-beside memory core number hart word watch a other is =
    elim (cases_Bool (address core a % 4 == 0)) [
      | inl on ↦ rw on (found (memory (address core a)))
      | inr off ↦ rw off (λ beside. is)
    ]
  where
    found :
        (there : Option ℕ) →
        StaysBeside hart word
        (option_map_or (with_word a.op core number watch a) there
        (leaves (Done (traps core (access_fault_cause a.op) (address core a))) watch))
    found None = λ beside. is
    found (Some there) = word-beside a.op core number hart word watch a there other is

shared-beside :
    (what : Shared) (memory : ℕ → Option ℕ) (core : Core) (number hart word : ℕ) (watch : List (Option ℕ))
    (lines : Lines) → number ≢ hart → reserved watch hart ≡ Some word →
    StaysBeside hart word (shared_effect memory core number watch what lines)
unfolding shared_effect
shared-beside (shared.Plain what) memory core number hart word watch lines other is =
    effect-beside number hart word (effect core what lines) watch other is
shared-beside (shared.Atomic a) memory core number hart word watch lines other is =
    atomic-beside memory core number hart word watch a other is

-- where the hart itself does neither LR nor SC
store-own :
    (hart at width word : ℕ) (watch : List (Option ℕ)) → reserved watch hart ≡ Some word →
    reserved (after_store hart at width watch) hart ≡ Some word
store-own hart at width word watch is =
    let below : hart < length (map (kept at width) watch) =
    omega (arith, inside watch hart word is, length-map watch (kept at width)) in
    get_or-set_same (map (kept at width) watch) hart (reserved watch hart) None below ∙ is

effect-own :
    (hart word : ℕ) (effect : Effect) (watch : List (Option ℕ)) → reserved watch hart ≡ Some word →
    reserved (after_effect hart effect watch) hart ≡ Some word
effect-own hart word effect watch is = by_span (span_of effect)
  where
    by_span :
        (span : Option Span) →
        reserved (option_map_or (λ span. after_store hart span.at span.width watch) span watch) hart ≡ Some word
    by_span None = is
    by_span (Some span) = store-own hart span.at span.width word watch is

word-own :
    (op : AtomicOp) (core : Core) (hart word : ℕ) (watch : List (Option ℕ)) (a : Atomic) (there : ℕ) →
    pairs_by op ≡ false → reserved watch hart ≡ Some word →
    reserved (with_word op core hart watch a there).watch hart ≡ Some word
word-own Lr core hart word watch a there single is = cc
word-own Sc core hart word watch a there single is = cc
word-own _ core hart word watch a there single is = store-own hart (address core a) 4 word watch is

atomic-own :
    (memory : ℕ → Option ℕ) (core : Core) (hart word : ℕ) (watch : List (Option ℕ)) (a : Atomic) →
    pairs_by a.op ≡ false → reserved watch hart ≡ Some word →
    reserved (atomic_effect memory core hart watch a).watch hart ≡ Some word
unfolding atomic_effect
atomic-own memory core hart word watch a single is =
    elim (cases_Bool (address core a % 4 == 0)) [
      | inl on ↦ rw on (found (memory (address core a)))
      | inr off ↦ rw off is
    ]
  where
    found :
        (there : Option ℕ) →
        reserved
        (option_map_or (with_word a.op core hart watch a) there
        (leaves (Done (traps core (access_fault_cause a.op) (address core a))) watch)).watch hart
        ≡ Some word
    found None = is
    found (Some there) = word-own a.op core hart word watch a there single is

shared-single :
    (what : Shared) (memory : ℕ → Option ℕ) (core : Core) (hart word : ℕ) (watch : List (Option ℕ)) (lines : Lines) →
    pairs what ≡ false → reserved watch hart ≡ Some word →
    reserved (shared_effect memory core hart watch what lines).watch hart ≡ Some word
unfolding shared_effect
shared-single (shared.Plain what) memory core hart word watch lines single is =
    effect-own hart word (effect core what lines) watch is
shared-single (shared.Atomic a) memory core hart word watch lines single is =
    atomic-own memory core hart word watch a single is

stays_by_one :
    (step : HartStep) (hart word : ℕ) (watch : List (Option ℕ)) → reserved watch hart ≡ Some word →
    (step.number ≢ hart → stores_in word (step_effect watch step).effect ≡ false) →
    (step.number ≡ hart → pairs step.what ≡ false) → reserved (step_effect watch step).watch hart ≡ Some word
stays_by_one step hart word watch is beside single =
    elim (cases_Bool (step.number == hart)) [
      | inl on ↦
          let same : step.number ≡ hart = eqb-true _ _ on in
          rw same (shared-single step.what step.memory step.core hart word watch step.lines (single same) is)
      | inr off ↦
          let other : step.number ≢ hart = λ same. both_ways _ off (eq-eqb _ _ same) in
          shared-beside step.what step.memory step.core step.number hart word watch step.lines other is (beside other)
    ]

pub stays :
    (hart word : ℕ) (watch : List (Option ℕ)) (steps : List HartStep) →
    reserved watch hart ≡ Some word → NoOtherStores hart word watch steps → NoOwnPairs hart steps →
    reserved (watch_after watch steps) hart ≡ Some word
stays hart word watch [] is beside single = is
stays hart word watch (step ∷ steps) is beside single =
    stays hart word (step_effect watch step).watch steps
    (stays_by_one step hart word watch is beside.0 single.0) beside.1 single.1
