-- What a reservation says of the steps before it.
use Rattle.std.proofs.Common.{◌≡◌, ◌≢◌, ◌⊎◌, ℕ, ◌%◌, ◌==◌, true, false, inl, inr, refl, ap}
use Rattle.std.proofs.Common.{List, [], ◌∷◌}
use Rattle.std.specs.Prelude.{Option, Some, None, IsSome}
use Rattle.std.specs.Option.{option_map_or}
use Rattle.std.proofs.lemmas.Bool.{both_ways, cases_Bool, eq-eqb, eqb-true}
use Rattle.rv_hart.specs.declared.csr.Lines.{Lines}
use Rattle.rv_hart.specs.Core.{Core}
use Rattle.rv_exec.specs.Effect.{Done}
use Rattle.rv_exec.specs.Outcome.{traps}
use Rattle.rv_atomic.specs.declared.atomic.AtomicOp.{AtomicOp}
use Rattle.rv_atomic.specs.declared.atomic.AtomicOp.TheVariants.{Sc}
use Rattle.rv_atomic.specs.declared.atomic.Atomic.{Atomic}
use Rattle.rv_atomic.specs.declared.shared.Shared.{Shared}
use Rattle.rv_atomic.specs.declared.shared.Shared.TheVariants as shared
use Rattle.rv_atomic.specs.AtomicEffect.{leaves, address, access_fault_cause, atomic_effect, with_word}
use Rattle.rv_atomic.specs.SharedEffect.{shared_effect}
use Rattle.rv_atomic.specs.Span.{span_of}
use Rattle.rv_atomic.specs.Watch.{has_reserved, reserved}
use Rattle.rv_atomic.specs.History.{HartStep, NoOtherStores, Reserves, ReservedSince, Succeeds, step_effect, stores_in}
use Rattle.rv_atomic.specs.History.{watch_after}
use Rattle.rv_atomic.proofs.OtherHarts.{shared-other}
use Rattle.rv_atomic.proofs.OwnSteps.{shared-own}

-- a reservation after a step was there, and no other hart has stored in its word, or the step has made it
one_step :
    (step : HartStep) (hart word : ℕ) (watch : List (Option ℕ)) →
    reserved (step_effect watch step).watch hart ≡ Some word →
    ((reserved watch hart ≡ Some word) ×
    (step.number ≢ hart → stores_in word (step_effect watch step).effect ≡ false)) ⊎
    Reserves hart word step
one_step step hart word watch is =
    elim (cases_Bool (step.number == hart)) [
      | inl on ↦
          let same : step.number ≡ hart = eqb-true _ _ on in
          let left = shared_effect step.memory step.core hart watch step.what step.lines in
          let own : reserved left.watch hart ≡ Some word =
          rw same at is in
          elim (shared-own step.what step.memory step.core hart word watch step.lines own) [
            | inl stays ↦ inl (stays, λ other. absurd (other same))
            | inr made ↦
                inr
                (record {
                  number = same;
                  instr = made.instr;
                  does = made.does;
                  op = made.op;
                  at = made.at;
                  aligned = made.aligned;
                  memory = made.there;
                })
          ]
      | inr off ↦
          let other : step.number ≢ hart = λ same. both_ways _ off (eq-eqb _ _ same) in
          let left =
          shared-other step.what step.memory step.core step.number hart word watch step.lines other is in
          inl (left.0, λ _. left.1)
    ]

history :
    (steps : List HartStep) (hart word : ℕ) (watch : List (Option ℕ)) →
    reserved (watch_after watch steps) hart ≡ Some word →
    ((reserved watch hart ≡ Some word) × NoOtherStores hart word watch steps) ⊎ ReservedSince hart word watch steps
history [] hart word watch is = inl (is, tt)
history (step ∷ steps) hart word watch is =
    elim (history steps hart word (step_effect watch step).watch is) [
      | inl stays ↦
          elim (one_step step hart word watch stays.0) [
            | inl before ↦ inl (before.0, (before.1, stays.1))
            | inr made ↦
                inr
                (record {
                  before = [];
                  reserving = step;
                  since = steps;
                  split = refl;
                  reserves = made;
                  spared = stays.1;
                })
          ]
      | inr made ↦
          inr
          (record {
            before = step ∷ made.before;
            reserving = made.reserving;
            since = made.since;
            split = ap (λ l. step ∷ l) made.split;
            reserves = made.reserves;
            spared = made.spared;
          })
    ]

-- an SC that stores has its word reserved
has_reserved-is :
    (found : Option ℕ) (at : ℕ) → option_map_or (λ word. word == at) found false ≡ true → found ≡ Some at
has_reserved-is None at is = cc
has_reserved-is (Some word) at is = ap Some (eqb-true word at is)

sc-reserved :
    (op : AtomicOp) (core : Core) (number : ℕ) (watch : List (Option ℕ)) (a : Atomic) (there : ℕ) → op ≡ Sc →
    IsSome (span_of (with_word op core number watch a there).effect) →
    reserved watch number ≡ Some (address core a)
sc-reserved Sc core number watch a there is =
    elim (cases_Bool (has_reserved watch number (address core a))) [
      | inl on ↦ rw on (λ stores. has_reserved-is (reserved watch number) (address core a) on)
      | inr off ↦ rw off (λ stores. cc)
    ]
sc-reserved _ core number watch a there is = cc

atomic-reserved :
    (memory : ℕ → Option ℕ) (core : Core) (number : ℕ) (watch : List (Option ℕ)) (a : Atomic) → a.op ≡ Sc →
    IsSome (span_of (atomic_effect memory core number watch a).effect) →
    reserved watch number ≡ Some (address core a)
unfolding atomic_effect
atomic-reserved memory core number watch a is =
    elim (cases_Bool (address core a % 4 == 0)) [
      | inl on ↦ rw on (found (memory (address core a)))
      | inr off ↦ rw off (λ stores. cc)
    ]
  where
    found :
        (there : Option ℕ) →
        IsSome
        (span_of
        (option_map_or (with_word a.op core number watch a) there
        (leaves (Done (traps core (access_fault_cause a.op) (address core a))) watch)).effect) →
        reserved watch number ≡ Some (address core a)
    found None = λ stores. cc
    found (Some there) = sc-reserved a.op core number watch a there is

shared-reserved :
    (what : Shared) (memory : ℕ → Option ℕ) (core : Core) (number : ℕ) (watch : List (Option ℕ)) (a : Atomic)
    (lines : Lines) → what ≡ shared.Atomic a → a.op ≡ Sc →
    IsSome (span_of (shared_effect memory core number watch what lines).effect) →
    reserved watch number ≡ Some (address core a)
unfolding shared_effect
shared-reserved what memory core number watch a lines does is =
    rw does (atomic-reserved memory core number watch a is)

pub needs_reservation :
    (watch : List (Option ℕ)) (steps : List HartStep) (sc : HartStep) (a : Atomic) →
    reserved watch sc.number ≡ None → Succeeds a (watch_after watch steps) sc →
    ReservedSince sc.number (address sc.core a) watch steps
needs_reservation watch steps sc a none succeeds =
    let is =
    shared-reserved sc.what sc.memory sc.core sc.number (watch_after watch steps) a sc.lines
    succeeds.does succeeds.op succeeds.stores in
    elim (history steps sc.number (address sc.core a) watch is) [
      | inl stays ↦ absurd (cc (none, stays.0))
      | inr made ↦ made
    ]
