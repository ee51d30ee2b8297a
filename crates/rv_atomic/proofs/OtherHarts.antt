-- What a step of another hart leaves of a reservation.
use Rattle.std.proofs.Common.{◌≡◌, ◌≢◌, ℕ, ◌%◌, ◌==◌, false, inl, inr, refl}
use Rattle.std.proofs.Common.{◌∙◌, sym, List, map, set}
use Rattle.std.specs.Prelude.{Option, Some, None}
use Rattle.std.specs.Option.{option_map_or}
use Rattle.std.proofs.Math.ListN.{get_or-map}
use Rattle.std.proofs.lemmas.Bool.{cases_Bool}
use Rattle.std.proofs.lemmas.List.{get_or-set_other}
use Rattle.rv_hart.specs.declared.csr.Lines.{Lines}
use Rattle.rv_hart.specs.Core.{Core}
use Rattle.rv_exec.specs.Effect.{Effect, Done, effect}
use Rattle.rv_exec.specs.Outcome.{traps}
use Rattle.rv_atomic.specs.declared.atomic.AtomicOp.{AtomicOp}
use Rattle.rv_atomic.specs.declared.atomic.AtomicOp.TheVariants.{Lr, Sc}
use Rattle.rv_atomic.specs.declared.atomic.Atomic.{Atomic}
use Rattle.rv_atomic.specs.declared.shared.Shared.{Shared}
use Rattle.rv_atomic.specs.declared.shared.Shared.TheVariants as shared
use Rattle.rv_atomic.specs.declared.span.Span.{Span}
use Rattle.rv_atomic.specs.AtomicEffect.{SharedEffect, leaves, address, access_fault_cause, atomic_effect, with_word}
use Rattle.rv_atomic.specs.SharedEffect.{after_effect, shared_effect}
use Rattle.rv_atomic.specs.Span.{span_of}
use Rattle.rv_atomic.specs.Watch.{after_store, has_reserved, kept, reaches, reserved}
use Rattle.rv_atomic.specs.History.{stores_in}

-- a reservation that a store has left was there, and its word was not reached
kept-some :
    (at width word : ℕ) (before : Option ℕ) → kept at width before ≡ Some word →
    (before ≡ Some word) × (reaches at width word ≡ false)
kept-some at width word None is = cc
kept-some at width word (Some w) is =
    elim (cases_Bool (reaches at width w)) [
      | inl on ↦ cc (rw on at is)
      | inr off ↦
          let some : Some w ≡ Some word = rw off at is in
          let same : w ≡ word = cc in
          (some, rw (← same) off)
    ]

-- what a step of another hart leaves
abbrev Spares : ℕ → ℕ → List (Option ℕ) → SharedEffect → Type 0
Spares hart word watch left =
    reserved left.watch hart ≡ Some word →
    (reserved watch hart ≡ Some word) × (stores_in word left.effect ≡ false)

after_store-other :
    (number at width hart word : ℕ) (watch : List (Option ℕ)) → number ≢ hart →
    reserved (after_store number at width watch) hart ≡ Some word →
    (reserved watch hart ≡ Some word) × (reaches at width word ≡ false)
after_store-other number at width hart word watch other is =
    let set_other =
    get_or-set_other (map (kept at width) watch) number hart (reserved watch number) None (λ same. other (sym same)) in
    let each = get_or-map (kept at width) watch hart None in
    kept-some at width word (reserved watch hart) (sym each ∙ (sym set_other ∙ is))

after_effect-other :
    (number hart word : ℕ) (effect : Effect) (watch : List (Option ℕ)) → number ≢ hart →
    Spares hart word watch (leaves effect (after_effect number effect watch))
after_effect-other number hart word effect watch other = by_span (span_of effect)
  where
    by_span :
        (span : Option Span) →
        reserved (option_map_or (λ span. after_store number span.at span.width watch) span watch) hart ≡ Some word →
        (reserved watch hart ≡ Some word) ×
        (option_map_or (λ span. reaches span.at span.width word) span false ≡ false)
    by_span None is = (is, refl)
    by_span (Some span) is = after_store-other number span.at span.width hart word watch other is

pub put-other :
    (number hart : ℕ) (word : Option ℕ) (watch : List (Option ℕ)) → number ≢ hart →
    reserved (set watch number word) hart ≡ reserved watch hart
put-other number hart word watch other = get_or-set_other watch number hart word None (λ same. other (sym same))

with_word-other :
    (op : AtomicOp) (core : Core) (number hart word : ℕ) (watch : List (Option ℕ)) (a : Atomic) (there : ℕ) →
    number ≢ hart → Spares hart word watch (with_word op core number watch a there)
with_word-other Lr core number hart word watch a there other =
    λ is. (sym (put-other number hart (Some (address core a)) watch other) ∙ is, refl)
with_word-other Sc core number hart word watch a there other =
    elim (cases_Bool (has_reserved watch number (address core a))) [
      | inl on ↦ rw on
          (λ is.
          after_store-other number (address core a) 4 hart word watch other
          (sym (put-other number hart None (after_store number (address core a) 4 watch) other) ∙ is))
      | inr off ↦ rw off (λ is. (sym (put-other number hart None watch other) ∙ is, refl))
    ]
with_word-other _ core number hart word watch a there other =
    λ is. after_store-other number (address core a) 4 hart word watch other is

atomic-other :
    (memory : ℕ → Option ℕ) (core : Core) (number hart word : ℕ) (watch : List (Option ℕ)) (a : Atomic) →
    number ≢ hart → Spares hart word watch (atomic_effect memory core number watch a)
unfolding atomic_effect
atomic-other memory core number hart word watch a other =
    elim (cases_Bool (address core a % 4 == 0)) [
      | inl on ↦ rw on (found (memory (address core a)))
      | inr off ↦ rw off (λ is. (is, refl))
    ]
  where
    found :
        (there : Option ℕ) →
        Spares hart word watch
        (option_map_or (with_word a.op core number watch a) there
        (leaves (Done (traps core (access_fault_cause a.op) (address core a))) watch))
    found None = λ is. (is, refl)
    found (Some there) = with_word-other a.op core number hart word watch a there other

pub shared-other :
    (what : Shared) (memory : ℕ → Option ℕ) (core : Core) (number hart word : ℕ) (watch : List (Option ℕ))
    (lines : Lines) → number ≢ hart → Spares hart word watch (shared_effect memory core number watch what lines)
unfolding shared_effect
shared-other (shared.Plain what) memory core number hart word watch lines other =
    after_effect-other number hart word (effect core what lines) watch other
shared-other (shared.Atomic a) memory core number hart word watch lines other =
    atomic-other memory core number hart word watch a other
