-- What a board keeps is kept.
use Rattle.std.proofs.Common.{◌≡◌, ◌∙◌, ℕ, ◌+◌, ◌%◌, ◌^◌, ◌<◌, ◌≤◌, true, false, List, [], ◌∷◌, All, length, map, take}
use Rattle.std.proofs.Common.{get_or, OnOk, OnErr}
use Rattle.std.proofs.Common.{refl, sym, ap, subst, arith}
use Rattle.std.specs.Prelude.{Option, None, Result, Ok, Err, if◌then◌else◌, replicate, slice_set, slice_index_or}
use Rattle.std.specs.List.{range_with_len}
use Rattle.std.proofs.Math.Seq.{map-set_same}
use Rattle.std.proofs.lemmas.List.{length-map, length-set, length-replicate, get_or_default}
use Rattle.std.proofs.lemmas.Bool.Decides.{nat_tests}
use Rattle.std.proofs.lemmas.Nat.{mod_below}
use Rattle.std.proofs.lemmas.List.{get_or-map as get_or-map'}
use Rattle.std.proofs.lemmas.List.Elements.{All-set, All-get_or, All-map, All-from_get_or, All-replicate}
use Rattle.std.proofs.lemmas.List.FromFn.{fill_by_all, length-map-range_with_len, get_or-map-range_with_len}
use Rattle.rv_exec.specs.Laws.{IsSameHart}
use Rattle.rv_hart.specs.Core.{Core, initial, initial_with}
use Rattle.rv_hart.specs.declared.letters.Letters.{Letters}
use Rattle.sys_bus.specs.declared.plan.BoardPlan.{BoardPlan}
use Rattle.board.specs.Idle.{core_passed, turns_of}
use Rattle.board.specs.Inner.Holds.{Holds, state_alone, state_of}
use Rattle.board.specs.HartView.{slot_state}
use Rattle.board.specs.Changes.{cleared}
use Rattle.board_space.specs.Changes.{copied}
use Rattle.board_space.specs.Copies.{CopiesPrefix}
use Rattle.board.specs.Inner.Seat.{all_passed, behind}
use Rattle.board_space.proofs.CopyLemmas.{plan-copied}
use Rattle.board.proofs.NumberLemmas.{plan-slot, speed-slot}
use Rattle.board.proofs.TurnLemmas.{number_after_is, taken_in_turn}
use Rattle.sys_bus.specs.Plan.{IsValid}
use Rattle.board.specs.New.{new_board, new_cores, reset_core}
use Rattle.board.specs.Numbers.{Numbers}
use Rattle.board_space.specs.Space.{Space}
use Rattle.board.specs.Slot.{hart_slot, number_after}
use Rattle.board_space.specs.Valid.{IsReservation}
use Rattle.board.specs.View.{View, State, core_at}
use Rattle.board.specs.HartBus.{HartBus}

-- what holds of a board holds of another one of its plan, with its speed and as many processors
pub holds_kept :
    (v w : View) → Holds v → w.numbers.speed ≡ v.numbers.speed → w.space.plan ≡ v.space.plan →
    length w.watch ≡ length v.watch → w.next < length v.cores → length w.cores ≡ length v.cores →
    All (λ core. core.letters ≡ v.space.plan.letters) w.cores →
    map (λ core. core.number) w.cores ≡ map (λ core. core.number) v.cores →
    All (IsReservation v.space.plan) w.watch → Holds w
holds_kept v w holds speed plan watch next cores letters numbers reserved = record {
  least = rw speed holds.least;
  most = rw speed holds.most;
  shared = rw (speed, cores) holds.shared;
  harts = cores ∙ holds.harts ∙ ap {A = BoardPlan} (λ p. length p.cpus) (sym plan);
  letters = rw plan letters;
  numbers = numbers ∙ holds.numbers ∙ ap (range_with_len 0) (sym cores);
  next = rw cores next;
  watch = watch ∙ holds.watch ∙ sym cores;
  reserved = rw plan reserved;
}

-- one of the processors is as it was, but for its state
pub holds_set :
    (v : View) (numbers : Numbers) (hart next : ℕ) (old core : Core) (watch : List (Option ℕ)) (space : Space) →
    Holds v → numbers.speed ≡ v.numbers.speed → space.plan ≡ v.space.plan → hart < length v.cores →
    old ≡ slice_index_or v.cores hart old → IsSameHart old core → length watch ≡ length v.watch →
    next < length v.cores → All (IsReservation v.space.plan) watch →
    Holds
    (record {
      numbers = numbers;
      cores = slice_set v.cores hart core;
      next = next;
      watch = watch;
      space = space;
    })
holds_set v numbers hart next old core watch space holds speed plan below is same harts within reserved =
    holds_kept v _ holds speed plan harts within (length-set v.cores hart core)
    (All-set (λ core. core.letters ≡ v.space.plan.letters) v.cores hart core
    (same.letters
    ∙ ap {A = Core} (λ core. core.letters) is
    ∙ All-get_or (λ core. core.letters ≡ v.space.plan.letters) v.cores hart old below holds.letters) holds.letters)
    (map-set_same (λ core. core.number) v.cores hart core old
    (same.number ∙ ap {A = Core} (λ core. core.number) is))
    reserved

-- a slot of one of them keeps the speed and the plan
pub kept_in_turn :
    (cores : List Core) (next : ℕ) (old core' : Core) (watch watch' : List (Option ℕ)) (w w' : HartBus) (t : ℕ) →
    old ≡ slice_index_or cores next old → next < length cores →
    slot_state next core' watch' w'
    ≡ behind (slot_state next old watch w) (hart_slot (slot_state next old watch w).view t) →
    (w'.numbers.speed ≡ w.numbers.speed) × (w'.space.plan ≡ w.space.plan)
kept_in_turn cores next old core' watch watch' w w' t is below done =
    let first : old ≡ slice_index_or cores next initial = is ∙ get_or_default cores next old initial below in
    let taken = taken_in_turn cores next core' watch watch' w w' t
    (subst
    (λ (core : Core). slot_state next core' watch' w'
    ≡ behind (slot_state next core watch w) (hart_slot (slot_state next core watch w).view t)) first done) in (
      ap {A = State} (λ s. s.view.numbers.speed) taken ∙ speed-slot _ t,
      ap {A = State} (λ s. s.view.space.plan) taken ∙ plan-slot _ t,
    )

-- the number after that of a processor is that of one
pub after_below : (harts hart : ℕ) → hart < harts → number_after harts hart < harts
after_below harts hart below = rw (number_after_is harts hart below) (mod_below _ _ (omega (arith, below)))

-- no reservations
none_reserved : (plan : BoardPlan) (n : ℕ) → All (IsReservation plan) (replicate n None)
none_reserved plan n = All-replicate (IsReservation plan) n None tt

pub holds_cleared :
    (v : View) (watch : List (Option ℕ)) (space : Space) → Holds v → space.plan ≡ v.space.plan →
    watch ≡ cleared v.watch → Holds (record v { watch = watch; space = space })
holds_cleared v watch space holds plan none =
    holds_kept v _ holds refl plan (ap length none ∙ length-replicate _ _) holds.next refl holds.letters refl
    (rw none (none_reserved v.space.plan (length v.watch)))

same_numbers : (cores : List Core) → map (λ core. core.number) (map reset_core cores) ≡ map (λ core. core.number) cores
same_numbers [] = refl
same_numbers (core ∷ cores) = ap (λ numbers. core.number ∷ numbers) (same_numbers cores)

-- all processors are in their first states
pub holds_reset :
    (v : View) (watch : List (Option ℕ)) (space : Space) → Holds v → space.plan ≡ v.space.plan →
    watch ≡ cleared v.watch →
    Holds (record v { cores = map reset_core v.cores; next = 0; watch = watch; space = space })
holds_reset v watch space holds plan none =
    holds_kept v _ holds refl plan (ap length none ∙ length-replicate _ _) (omega (arith, holds.next))
    (length-map v.cores reset_core)
    (All-map (λ core. core.letters ≡ v.space.plan.letters) reset_core v.cores holds.letters) (same_numbers v.cores)
    (rw none (none_reserved v.space.plan (length v.watch)))

-- cycles of the processors have passed
letters-passed : (n : ℕ) (core : Core) → (core_passed n core).letters ≡ core.letters
letters-passed n core =
    elim core.halted as
    (λ b. (if b then core else record core { mcycle = (core.mcycle + n) % 2 ^ 64 }).letters ≡ core.letters) [
      | true ↦ refl
      | false ↦ refl
    ]

number-passed : (n : ℕ) (core : Core) → (core_passed n core).number ≡ core.number
number-passed n core =
    elim core.halted as
    (λ b. (if b then core else record core { mcycle = (core.mcycle + n) % 2 ^ 64 }).number ≡ core.number) [
      | true ↦ refl
      | false ↦ refl
    ]

pub holds_passed :
    (v : View) (next n : ℕ) → Holds v → next < length v.cores →
    Holds (record v { cores = all_passed v.cores v.next n; next = next })
holds_passed v next n holds within =
    holds_kept v _ holds refl refl refl within (length-map-range_with_len _ 0 harts)
    (All-from_get_or (λ core. core.letters ≡ v.space.plan.letters) passed initial
    (λ k there. rw (at k (rw count at there)) (letters-passed _ (core_at v k)
    ∙ All-get_or (λ core. core.letters ≡ v.space.plan.letters) v.cores k initial (rw count at there) holds.letters)))
    (numbers passed count (λ k there. rw (at k there) (number-passed _ (core_at v k)))
    ∙ sym (numbers v.cores refl (λ k there. refl))) holds.reserved
  where
    harts : ℕ
    harts = length v.cores

    passed : List Core
    passed = all_passed v.cores v.next n

    count : length passed ≡ harts
    count = length-map-range_with_len _ 0 harts

    at : (k : ℕ) → k < harts → get_or passed k initial ≡ core_passed (turns_of harts v.next n k) (core_at v k)
    at k there = get_or-map-range_with_len _ 0 harts k k initial there (omega arith)

    numbers :
        (cores : List Core) → length cores ≡ harts →
        ((k : ℕ) → k < harts → (get_or cores k initial).number ≡ (core_at v k).number) →
        map (λ (core : Core). core.number) cores ≡ map (λ k. (core_at v k).number) (range_with_len 0 harts)
    numbers cores many each =
        fill_by_all _ (map (λ (core : Core). core.number) cores) harts 0 (length-map cores _ ∙ many)
        (λ k there. get_or-map' (λ (core : Core). core.number) cores k initial 0 (rw many there) ∙ each k there)

-- ---- a board of one processor

one_core : (cores : List Core) → length cores ≡ 1 → cores ≡ slice_index_or cores 0 initial ∷ []
one_core [] one = absurd (omega (arith, one))
one_core (core ∷ []) one = refl
one_core (core ∷ other ∷ cores) one = absurd (omega (arith, one))

pub alone_is :
    (cores : List Core) (next : ℕ) (watch : List (Option ℕ)) (w : HartBus) → length cores ≡ 1 → next < length cores →
    state_of cores next watch w ≡ state_alone (slice_index_or cores 0 initial) watch w
alone_is cores next watch w one below =
    let first : next ≡ 0 = omega (arith, one, below) in
    rw first (ap (λ all. state_of all 0 watch w) (one_core cores one))

pub alone_set :
    (cores : List Core) (next : ℕ) (core : Core) (watch : List (Option ℕ)) (w : HartBus) → length cores ≡ 1 →
    next < length cores → state_of (slice_set cores 0 core) next watch w ≡ state_alone core watch w
alone_set cores next core watch w one below =
    let first : next ≡ 0 = omega (arith, one, below) in
    rw first (ap (λ all. state_of (slice_set all 0 core) 0 watch w) (one_core cores one))

-- ---- copies

-- they keep the plan, whole or in part
pub plan_copies :
    {E : Type 0} (r : Result (Unit {0}) E) (s now : Space) (at : ℕ) (bytes : List ℕ) →
    OnOk r (now ≡ copied s at bytes) → OnErr r (CopiesPrefix s now at bytes) → now.plan ≡ s.plan
plan_copies (Ok u) s now at bytes ok err = ap {A = Space} (λ s. s.plan) ok ∙ plan-copied s at bytes
plan_copies (Err e) s now at bytes ok err = ap {A = Space} (λ s. s.plan) err.1.1 ∙ plan-copied s at (take err.0 bytes)

-- ---- a new board

some_harts : (plan : BoardPlan) → IsValid plan → 1 ≤ length plan.cpus
some_harts plan valid = grind (arith, nat_tests, valid.few_processors)

pub holds_new : (number : ℕ) (plan : BoardPlan) → IsValid plan → Holds (new_board number plan)
holds_new number plan valid =
    let count : length (new_cores (length plan.cpus) plan.letters) ≡ length plan.cpus =
    length-map-range_with_len (initial_with plan.letters) 0 (length plan.cpus) in
    record {
      least = grind (arith, nat_tests, valid.speed);
      most = grind (arith, nat_tests, valid.speed);
      shared = rw count (grind (arith, nat_tests, valid.speed));
      harts = count;
      letters =
          All-from_get_or (λ core. core.letters ≡ plan.letters) _ initial
          (λ k there.
          ap {A = Core} (λ core. core.letters)
          (get_or-map-range_with_len (initial_with plan.letters) 0 (length plan.cpus) k k initial (rw count at there)
          (omega arith)));
      numbers = own_numbers plan.letters (range_with_len 0 (length plan.cpus)) ∙ ap (range_with_len 0) (sym count);
      next = rw count (some_harts plan valid);
      watch = length-replicate (length plan.cpus) None ∙ sym count;
      reserved = none_reserved plan (length plan.cpus);
    }
  where
    own_numbers :
        (letters : Letters) (places : List ℕ) →
        map (λ (core : Core). core.number) (map (initial_with letters) places) ≡ places
    own_numbers letters [] = refl
    own_numbers letters (place ∷ places) = ap (λ all. place ∷ all) (own_numbers letters places)
