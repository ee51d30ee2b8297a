-- What a step of a hart leaves of its own reservation.
use Rattle.std.proofs.Common.{◌≡◌, ◌⊎◌, ℕ, zero, suc, ◌%◌, ◌<◌, ◌==◌, inl, inr, refl}
use Rattle.std.proofs.Common.{◌∙◌, sym, List, [], ◌∷◌, length, map, set, arith}
use Rattle.std.specs.Prelude.{Option, Some, None, IsSome}
use Rattle.std.specs.Option.{option_map_or}
use Rattle.std.proofs.lemmas.Bool.{cases_Bool, eqb-true}
use Rattle.std.proofs.lemmas.List.{get_or-set_same, length-map, length-set}
use Rattle.rv_hart.specs.declared.csr.Lines.{Lines}
use Rattle.rv_hart.specs.Core.{Core}
use Rattle.rv_exec.specs.Effect.{Effect, Done, effect}
use Rattle.rv_exec.specs.Outcome.{traps}
use Rattle.rv_atomic.specs.declared.atomic.AtomicOp.{AtomicOp}
use Rattle.rv_atomic.specs.declared.atomic.AtomicOp.TheVariants.{Lr, Sc}
use Rattle.rv_atomic.specs.declared.atomic.Atomic.{Atomic}
use Rattle.rv_atomic.specs.declared.shared.Shared.{Shared}
use Rattle.rv_atomic.specs.declared.shared.Shared.TheVariants as shared
use Rattle.rv_atomic.specs.declared.span.Span.{Span}
use Rattle.rv_atomic.specs.AtomicEffect.{SharedEffect, leaves, address, access_fault_cause, atomic_effect, with_word}
use Rattle.rv_atomic.specs.SharedEffect.{after_effect, shared_effect}
use Rattle.rv_atomic.specs.Span.{span_of}
use Rattle.rv_atomic.specs.Watch.{after_store, has_reserved, kept, reserved}

-- a reservation is one of a hart that there is
pub inside : (watch : List (Option ℕ)) (hart word : ℕ) → reserved watch hart ≡ Some word → hart < length watch
inside [] hart word is = cc
inside (w ∷ ws) zero word is = omega arith
inside (w ∷ ws) (suc hart) word is = omega (arith, inside ws hart word is)

-- what a step of the hart itself leaves: its store leaves its own
after_store-own :
    (hart at width word : ℕ) (watch : List (Option ℕ)) →
    reserved (after_store hart at width watch) hart ≡ Some word → reserved watch hart ≡ Some word
after_store-own hart at width word watch is =
    let most = inside (after_store hart at width watch) hart word is in
    let lengths =
    length-set (map (kept at width) watch) hart (reserved watch hart) ∙ length-map watch (kept at width) in
    let below : hart < length (map (kept at width) watch) =
    omega (arith, most, lengths, length-map watch (kept at width)) in
    sym (get_or-set_same (map (kept at width) watch) hart (reserved watch hart) None below) ∙ is

put-own :
    (hart word : ℕ) (new : Option ℕ) (watch : List (Option ℕ)) →
    reserved (set watch hart new) hart ≡ Some word → new ≡ Some word
put-own hart word new watch is =
    let below : hart < length watch =
    omega (arith, inside (set watch hart new) hart word is, length-set watch hart new) in
    sym (get_or-set_same watch hart new None below) ∙ is

after_effect-own :
    (hart word : ℕ) (effect : Effect) (watch : List (Option ℕ)) →
    reserved (after_effect hart effect watch) hart ≡ Some word → reserved watch hart ≡ Some word
after_effect-own hart word effect watch = by_span (span_of effect)
  where
    by_span :
        (span : Option Span) →
        reserved (option_map_or (λ span. after_store hart span.at span.width watch) span watch) hart ≡ Some word →
        reserved watch hart ≡ Some word
    by_span None is = is
    by_span (Some span) is = after_store-own hart span.at span.width word watch is

-- the reservation was there, or the instruction is an LR at its word
abbrev Comes : ℕ → ℕ → List (Option ℕ) → AtomicOp → ℕ → SharedEffect → Type 0
Comes hart word watch op at left =
    reserved left.watch hart ≡ Some word → (reserved watch hart ≡ Some word) ⊎ ((op ≡ Lr) × (at ≡ word))

with_word-own :
    (op : AtomicOp) (core : Core) (hart word : ℕ) (watch : List (Option ℕ)) (a : Atomic) (there : ℕ) →
    Comes hart word watch op (address core a) (with_word op core hart watch a there)
with_word-own Lr core hart word watch a there =
    λ is.
    let some : Some (address core a) ≡ Some word = put-own hart word (Some (address core a)) watch is in
    let same : address core a ≡ word = cc in
    inr (refl, same)
with_word-own Sc core hart word watch a there =
    elim (cases_Bool (has_reserved watch hart (address core a))) [
      | inl on ↦ rw on (λ is. cc (put-own hart word None (after_store hart (address core a) 4 watch) is))
      | inr off ↦ rw off (λ is. cc (put-own hart word None watch is))
    ]
with_word-own _ core hart word watch a there =
    λ is. inl (after_store-own hart (address core a) 4 word watch is)

-- what is done is an LR that reserves the word
pub record IsReserving (what : Shared) (memory : ℕ → Option ℕ) (core : Core) (word : ℕ) : Type 0 where
  pub instr : Atomic
  pub does : what ≡ shared.Atomic instr
  pub op : instr.op ≡ Lr
  pub at : address core instr ≡ word
  pub aligned : word % 4 ≡ 0
  pub there : IsSome (memory word)

atomic-own :
    (memory : ℕ → Option ℕ) (core : Core) (hart word : ℕ) (watch : List (Option ℕ)) (a : Atomic) →
    reserved (atomic_effect memory core hart watch a).watch hart ≡ Some word →
    (reserved watch hart ≡ Some word) ⊎ IsReserving (shared.Atomic a) memory core word
unfolding atomic_effect
atomic-own memory core hart word watch a =
    elim (cases_Bool (address core a % 4 == 0)) [
      | inl on ↦ rw on (found (eqb-true _ _ on) (memory (address core a)) refl)
      | inr off ↦ rw off (λ is. inl is)
    ]
  where
    found :
        address core a % 4 ≡ 0 → (there : Option ℕ) → memory (address core a) ≡ there →
        reserved
        (option_map_or (with_word a.op core hart watch a) there
        (leaves (Done (traps core (access_fault_cause a.op) (address core a))) watch)).watch hart
        ≡ Some word →
        (reserved watch hart ≡ Some word) ⊎ IsReserving (shared.Atomic a) memory core word
    found aligned None same = λ is. inl is
    found aligned (Some there) same =
        λ is.
        elim (with_word-own a.op core hart word watch a there is) [
          | inl stays ↦ inl stays
          | inr lr ↦
              let at : memory word ≡ Some there = rw lr.1 at same in
              inr
              (record {
                instr = a;
                does = refl;
                op = lr.0;
                at = lr.1;
                aligned = rw lr.1 at aligned;
                there = rw at refl;
              })
        ]

pub shared-own :
    (what : Shared) (memory : ℕ → Option ℕ) (core : Core) (hart word : ℕ) (watch : List (Option ℕ)) (lines : Lines) →
    reserved (shared_effect memory core hart watch what lines).watch hart ≡ Some word →
    (reserved watch hart ≡ Some word) ⊎ IsReserving what memory core word
unfolding shared_effect
shared-own (shared.Plain what) memory core hart word watch lines =
    λ is. inl (after_effect-own hart word (effect core what lines) watch is)
shared-own (shared.Atomic a) memory core hart word watch lines = atomic-own memory core hart word watch a
