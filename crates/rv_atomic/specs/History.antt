-- What the harts that share a memory do one after another, and what a reservation says of it.
use Rattle.std.specs.Prelude.{◌≡◌, ◌≢◌, ℕ, ◌%◌, Bool, true, false, List, [], ◌∷◌, ◌++◌, Option, Some, None}
use Rattle.std.specs.Prelude.{IsSome}
use Rattle.std.specs.Option.{option_map_or}
use Rattle.rv_hart.specs.declared.csr.Lines.{Lines}
use Rattle.rv_hart.specs.Core.{Core}
use Rattle.rv_exec.specs.Effect.{Effect}
use Rattle.rv_atomic.specs.declared.atomic.AtomicOp.{AtomicOp}
use Rattle.rv_atomic.specs.declared.atomic.AtomicOp.TheVariants.{Lr, Sc}
use Rattle.rv_atomic.specs.declared.atomic.Atomic.{Atomic}
use Rattle.rv_atomic.specs.declared.shared.Shared.{Shared}
use Rattle.rv_atomic.specs.declared.shared.Shared.TheVariants as shared
use Rattle.rv_atomic.specs.AtomicEffect.{SharedEffect, address}
use Rattle.rv_atomic.specs.SharedEffect.{shared_effect}
use Rattle.rv_atomic.specs.Span.{span_of}
use Rattle.rv_atomic.specs.Watch.{reaches, reserved}

-- one step: which hart does it, its core before, what it does, and what it sees of the interrupts, of the time and of
-- the words in memory
pub record HartStep : Type 0 where
  pub number : ℕ
  pub core : Core
  pub what : Shared
  pub lines : Lines
  pub memory : ℕ → Option ℕ

-- what a step does, where these are the reservations before it
abbrev pub step_effect : List (Option ℕ) → HartStep → SharedEffect
step_effect watch step = shared_effect step.memory step.core step.number watch step.what step.lines

-- the reservations after a list of steps
abbrev pub watch_after : List (Option ℕ) → List HartStep → List (Option ℕ)
watch_after watch [] = watch
watch_after watch (step ∷ steps) = watch_after (step_effect watch step).watch steps

-- whether an effect stores in a byte of the word
abbrev pub stores_in : ℕ → Effect → Bool
stores_in word effect = option_map_or (λ span. reaches span.at span.width word) (span_of effect) false

-- in none of the steps a hart other than this one stores in a byte of the word
abbrev pub NoOtherStores : ℕ → ℕ → List (Option ℕ) → List HartStep → Type 0
NoOtherStores hart word watch [] = Unit {0}
NoOtherStores hart word watch (step ∷ steps) =
    (step.number ≢ hart → stores_in word (step_effect watch step).effect ≡ false) ×
    NoOtherStores hart word (step_effect watch step).watch steps

-- a step is an LR of this hart, which loads this word and reserves it
pub record Reserves (hart word : ℕ) (step : HartStep) : Type 0 where
  pub number : step.number ≡ hart
  pub instr : Atomic
  pub does : step.what ≡ shared.Atomic instr
  pub op : instr.op ≡ Lr
  pub at : address step.core instr ≡ word
  pub aligned : word % 4 ≡ 0
  pub memory : IsSome (step.memory word)

-- in one of the steps the hart reserved the word, and no other hart has stored in it since
pub record ReservedSince (hart word : ℕ) (watch : List (Option ℕ)) (steps : List HartStep) : Type 0 where
  pub before : List HartStep
  pub reserving : HartStep
  pub since : List HartStep
  pub split : steps ≡ before ++ (reserving ∷ since)
  pub reserves : Reserves hart word reserving
  pub spared : NoOtherStores hart word (watch_after watch (before ++ (reserving ∷ []))) since

-- a step is an SC with these registers that stores
pub record Succeeds (a : Atomic) (watch : List (Option ℕ)) (step : HartStep) : Type 0 where
  pub does : step.what ≡ shared.Atomic a
  pub op : a.op ≡ Sc
  pub stores : IsSome (span_of (step_effect watch step).effect)

-- An SC succeeds only where its hart has reserved the word by an LR, and no other hart has stored in it since
-- (Unprivileged ISA 8.2). At the beginning the hart has no reservation.
abbrev pub SuccessNeedsReservation : Type 0
SuccessNeedsReservation =
    (watch : List (Option ℕ)) (steps : List HartStep) (sc : HartStep) (a : Atomic) →
    reserved watch sc.number ≡ None → Succeeds a (watch_after watch steps) sc →
    ReservedSince sc.number (address sc.core a) watch steps

-- whether a step is an LR or an SC
abbrev pub pairs_by : AtomicOp → Bool
pairs_by Lr = true
pairs_by Sc = true
pairs_by _ = false

abbrev pub pairs : Shared → Bool
pairs (shared.Plain what) = false
pairs (shared.Atomic a) = pairs_by a.op

-- none of the steps is an LR or an SC of this hart
abbrev pub NoOwnPairs : ℕ → List HartStep → Type 0
NoOwnPairs hart [] = Unit {0}
NoOwnPairs hart (step ∷ steps) = (step.number ≡ hart → pairs step.what ≡ false) × NoOwnPairs hart steps

-- A reservation stays where no other hart stores in the word, and its hart does no LR and no SC: so the SC after these
-- steps succeeds.
abbrev pub ReservationsStay : Type 0
ReservationsStay =
    (hart word : ℕ) (watch : List (Option ℕ)) (steps : List HartStep) →
    reserved watch hart ≡ Some word → NoOtherStores hart word watch steps → NoOwnPairs hart steps →
    reserved (watch_after watch steps) hart ≡ Some word
