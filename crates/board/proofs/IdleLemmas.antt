-- Slots of processors that wait or are halted, one after another.
use Rattle.std.proofs.Common.{◌≡◌, ℕ, zero, suc, ◌+◌, ◌-◌, ◌*◌, ◌/◌, ◌%◌, ◌^◌, ◌<◌, ◌≤◌, ◌==◌, Bool, true, false, not}
use Rattle.std.proofs.Common.{◌&&◌}
use Rattle.std.proofs.Common.{◌||◌, refl, sym, ap, ◌∙◌, subst, inl, inr, arith, length, map, All, add-one}
use Rattle.std.proofs.Common.{List, ◌++◌, take, drop, slice_index_or}
use Rattle.std.specs.Prelude.{IsTrue, if◌then◌else◌, slice_set}
use Rattle.std.specs.List.{range_with_len}
use Rattle.std.proofs.Math.Nat.{div-lt_iff_lt-mul, le-div_iff_mul-le, div-mul-le_self, mod-eq_of_lt, suc-mod}
use Rattle.std.proofs.lemmas.Bool.{cases_eq, cases_Bool}
use Rattle.std.proofs.lemmas.Bool.Decides.{nat_tests}
use Rattle.std.proofs.lemmas.List.{append-nil, get_or_read, take_all, take-append-le, length-set, get_or-set_same}
use Rattle.std.proofs.lemmas.List.{get_or-set_other}
use Rattle.std.proofs.lemmas.List.FromFn.{length-map-range_with_len, get_or-map-range_with_len, fill_by_all}
use Rattle.std.proofs.lemmas.Nat.{mod_below}
use Rattle.lab_num.specs.Paid.{slot_at}
use Rattle.lab_num.proofs.ListLemmas.{passes_each}
use Rattle.rv_hart.specs.declared.csr.Lines.{Lines}
use Rattle.rv_hart.specs.Core.{Core, initial, ticked}
use Rattle.rv_hart.specs.Trap.{is_ready}
use Rattle.board.specs.Inner.Seat.{all_passed}
use Rattle.board.specs.Idle.{IsIdle, IsStillFor, passed, core_passed, is_idle, turns_of, all_halted}
use Rattle.board_space.specs.Lines.{lines_of, timer_up, mip_of}
use Rattle.board.specs.Slot.{slot, hart_slot, number_after}
use Rattle.board_space.specs.Space.{Space}
use Rattle.board.specs.Stretch.{stretch}
use Rattle.board.specs.View.{View, State, quiet, after, core_at}
use Rattle.board.proofs.SlotLemmas.{slot-halted}
use Rattle.board.proofs.TurnLemmas.{number_after_is, turns_more}

-- ---- one slot

-- a slot that passes by itself: its cycle is counted, unless the processor is halted
abbrev one_passed : Core → Core
one_passed core = if core.halted then core else ticked core

-- a processor that waits, and for which no interrupt is ready
rests_by :
    (halted waiting ready : Bool) → halted ≡ false → IsTrue (halted || (waiting && not ready)) →
    (waiting ≡ true) × (ready ≡ false)
rests_by false true false h rests = (refl, refl)
rests_by true waiting ready h rests = absurd (cc)
rests_by false false ready h rests = absurd (cc)
rests_by false true true h rests = absurd (cc)

slot-idle :
    (v : View) (t : ℕ) (timer : Bool) → v.next < length v.cores → IsIdle v timer → timer_up v.space.timer t ≡ timer →
    slot v t
    ≡ quiet (record v {
      cores = slice_set v.cores v.next (one_passed (core_at v v.next));
      next = number_after (length v.cores) v.next;
    })
unfolding slot hart_slot lines_of
slot-idle v t timer below idle line = elim (cases_Bool (core_at v v.next).halted) [
  | inl halted ↦ rw halted refl
  | inr runs ↦
      let rests = rests_by (core_at v v.next).halted (core_at v v.next).waiting
      (is_ready (core_at v v.next) (mip_of v.space timer v.next)) runs (idle.rests v.next below) in
      rw (runs, idle.settled, rests.0, line, rests.1) refl
]

-- ---- boards that slots have passed by

length-passed : (v : View) (n : ℕ) → length (passed v n).cores ≡ length v.cores
length-passed v n = length-map-range_with_len _ 0 (length v.cores)

core-passed :
    (v : View) (n hart : ℕ) → hart < length v.cores →
    core_at (passed v n) hart ≡ core_passed (turns_of (length v.cores) v.next n hart) (core_at v hart)
core-passed v n hart below = get_or-map-range_with_len _ 0 (length v.cores) hart hart initial below (omega arith)

-- one that has no slot behind it
none_passed : (core : Core) → core.mcycle < 2 ^ 64 → core ≡ core_passed 0 core
none_passed core fits =
    let same : core.mcycle ≡ (core.mcycle + 0) % 2 ^ 64 = omega (arith, fits) in
    elim core.halted as (λ b. core ≡ (if b then core else record core { mcycle = (core.mcycle + 0) % 2 ^ 64 })) [
      | true ↦ refl
      | false ↦ ap (λ m. record core { mcycle = m }) same
    ]

-- and one slot more
more_passed : (n : ℕ) (core : Core) → one_passed (core_passed n core) ≡ core_passed (n + 1) core
unfolding ticked
more_passed n core = elim (cases_Bool core.halted) [
  | inl halted ↦ rw halted refl
  | inr runs ↦
      let count : ((core.mcycle + n) % 2 ^ 64 + 1) % 2 ^ 64 ≡ (core.mcycle + (n + 1)) % 2 ^ 64 = omega arith in
      rw runs (ap (λ m. record core { halted = false; mcycle = m }) count)
]

-- a processor goes on so whatever its cycles
idle-passed : (n : ℕ) (core : Core) (mip : ℕ) → is_idle (core_passed n core) mip ≡ is_idle core mip
idle-passed n core mip =
    elim core.halted as
    (λ b. is_idle (if b then core else record core { mcycle = (core.mcycle + n) % 2 ^ 64 }) mip ≡ is_idle core mip) [
      | true ↦ refl
      | false ↦ refl
    ]

still_idle : (v : View) (timer : Bool) (n : ℕ) → IsIdle v timer → IsIdle (passed v n) timer
still_idle v timer n idle = record {
  settled = idle.settled;
  rests = λ hart below.
      let there : hart < length v.cores = rw (length-passed v n) at below in
      rw (core-passed v n hart there, idle-passed) (idle.rests hart there);
}

view_none : (v : View) → v.next < length v.cores → All (λ core. core.mcycle < 2 ^ 64) v.cores → v ≡ passed v 0
view_none v below fits =
    let harts = length v.cores in
    let cores : v.cores
    ≡ map (λ hart. core_passed (turns_of harts v.next 0 hart) (core_at v hart)) (range_with_len 0 harts) =
    fill_by_all _ v.cores harts initial refl
    (λ k there. none_passed (core_at v k) (fits k initial there)) in
    let none : v.next + 0 ≡ v.next = omega arith in
    let next : v.next ≡ (v.next + 0) % harts = rw none (sym (mod-eq_of_lt below)) in
    ap (λ all. record v { cores = all }) cores
    ∙ ap (λ number. record (passed v 0) { next = number }) next

next_passed :
    (harts next n : ℕ) → next < harts → number_after harts ((next + n) % harts) ≡ (next + suc n) % harts
next_passed harts next n below =
    let within : (next + n) % harts < harts = mod_below _ _ (omega (arith, below)) in
    let more : next + suc n ≡ suc (next + n) = omega arith in
    number_after_is harts _ within ∙ rw (more, suc-mod (next + n) harts, add-one) refl

cores_passed :
    (v : View) (n : ℕ) → v.next < length v.cores →
    slice_set (passed v n).cores (passed v n).next (one_passed (core_at (passed v n) (passed v n).next))
    ≡ (passed v (suc n)).cores
cores_passed v n below =
    fill_by_all _ _ harts initial (length-set _ _ _ ∙ length-passed v n)
    (λ k there. elim (cases_eq k turn) [
      | inl is ↦
          rw is (get_or-set_same (passed v n).cores turn _ initial (rw (length-passed v n) within))
          ∙ ap one_passed (core-passed v n turn within)
          ∙ more_passed (turns_of harts v.next n turn) (core_at v turn)
          ∙ rw is (ap (λ count. core_passed count (core_at v turn)) (sym (counted turn (grind (arith, nat_tests)))))
      | inr other ↦
          get_or-set_other (passed v n).cores turn k _ initial other
          ∙ core-passed v n k there
          ∙ ap (λ count. core_passed count (core_at v k)) (sym (not_counted k other))
    ])
  where
    harts : ℕ
    harts = length v.cores

    turn : ℕ
    turn = (v.next + n) % harts

    within : turn < harts
    within = mod_below _ _ (omega (arith, below))

    counted : (hart : ℕ) → (turn == hart) ≡ true → turns_of harts v.next (suc n) hart ≡ turns_of harts v.next n hart + 1
    counted hart here = turns_more harts v.next n hart ∙ rw here refl

    not_counted : (k : ℕ) → (k ≡ turn → ⊥) → turns_of harts v.next (suc n) k ≡ turns_of harts v.next n k
    not_counted k other =
        let differ : (turn == k) ≡ false = grind (arith, nat_tests, other) in
        turns_more harts v.next n k ∙ rw differ (omega arith)

-- one slot more
slot-passed :
    (v : View) (t : ℕ) (timer : Bool) (n : ℕ) → v.next < length v.cores → IsIdle v timer →
    timer_up v.space.timer t ≡ timer → slot (passed v n) t ≡ quiet (passed v (suc n))
slot-passed v t timer n below idle line =
    let within : (v.next + n) % length v.cores < length v.cores = mod_below _ _ (omega (arith, below)) in
    slot-idle (passed v n) t timer (rw (length-passed v n) within) (still_idle v timer n idle) line
    ∙ rw (cores_passed v n below, length-passed v n, next_passed (length v.cores) v.next n below) refl

-- ---- slots one after another

-- idle slots one after another are the cycles that pass
pub stretch-idle :
    (v : View) (timer : Bool) (from a n : ℕ) → v.next < length v.cores →
    All (λ core. core.mcycle < 2 ^ 64) v.cores → IsIdle v timer → IsStillFor v timer from a n →
    stretch v from a n ≡ quiet (passed v n)
unfolding stretch
stretch-idle v timer from a zero below fits idle line = ap quiet (view_none v below fits)
stretch-idle v timer from a (suc n) below fits idle line =
    let t = slot_at from v.numbers.speed (a + n) in
    let before = stretch-idle v timer from a n below fits idle (λ i h. line i (omega (arith, h))) in
    rw (before, slot-passed v t timer n below idle (line n (omega arith))) refl

-- slots of a board whose processors are all halted change nothing but whose turn is next
pub stretch-halted :
    (v : View) (from a n : ℕ) → v.next < length v.cores → all_halted v.cores ≡ true →
    stretch v from a n ≡ quiet (record v { next = (v.next + n) % length v.cores })
unfolding stretch
stretch-halted v from a zero below halted =
    let none : v.next + zero ≡ v.next = omega arith in
    ap {A = ℕ} (λ number. quiet (record v { next = number })) (rw none (sym (mod-eq_of_lt below)))
stretch-halted v from a (suc n) below halted =
    let before = stretch-halted v from a n below halted in
    let within : (v.next + n) % length v.cores < length v.cores = mod_below _ _ (omega (arith, below)) in
    let now : View = record v { next = (v.next + n) % length v.cores } in
    rw (
      before,
      slot-halted now (slot_at from v.numbers.speed (a + n))
          (passes_each (λ core. core.halted) v.cores ((v.next + n) % length v.cores) initial halted within),
      next_passed (length v.cores) v.next n below,
    ) refl

-- a processor is idle by the test of its lines
pub idle_by :
    (cores : List Core) (s : Space) (hart t : ℕ) (core : Core) (lines : Lines) → hart < length cores →
    core ≡ slice_index_or cores hart core → lines ≡ lines_of s hart t → is_idle core lines.mip ≡ true →
    is_idle (slice_index_or cores hart initial) (mip_of s (timer_up s.timer t) hart) ≡ true
unfolding lines_of
idle_by cores s hart t core lines there read lines_is idle =
    let same : core ≡ slice_index_or cores hart initial = get_or_read cores hart core there read initial in
    rw (← same) (ap (λ l. is_idle core l.mip) (sym lines_is) ∙ idle)

-- processors that are put back where they stood
pub passed_back :
    (n : ℕ) (now cores inside : List Core) (next slots : ℕ) → now ≡ all_passed cores next slots → cores ≡ inside →
    n ≡ length inside → take n (now ++ drop (length now) inside) ≡ all_passed inside next slots
passed_back n now cores inside next slots is same count =
    let long : length now ≡ n =
    ap length is ∙ length-map-range_with_len _ 0 (length cores) ∙ ap length same ∙ sym count in
    take-append-le n now (drop (length now) inside) (omega (arith, long))
    ∙ take_all n now (omega (arith, long))
    ∙ is
    ∙ ap (λ all. all_passed all next slots) same

passed_behind : (s : State) (v : View) → record s { view = v } ≡ after s (quiet v)
passed_behind s v = sym (simp append-nil)

pub after_halted :
    (s new : State) (from a n : ℕ) → s.view.next < length s.view.cores → all_halted s.view.cores ≡ true →
    new ≡ record s { view = record s.view { next = (s.view.next + n) % length s.view.cores } } →
    new ≡ after s (stretch s.view from a n)
after_halted s new from a n below halted is =
    is
    ∙ passed_behind s (record s.view { next = (s.view.next + n) % length s.view.cores })
    ∙ ap (after s) (sym (stretch-halted s.view from a n below halted))

-- times of slots
slots-rise : (speed from a i : ℕ) → 1 ≤ speed → slot_at from speed a ≤ slot_at from speed (a + i)
slots-rise speed from a i positive =
    let more : a / speed ≤ (a + i) / speed =
    (le-div_iff_mul-le {k = speed} {x = a / speed} {y = a + i} (omega arith)).1
    (omega (arith, div-mul-le_self a speed)) in
    omega (arith, more)

slots-before :
    (speed from k until : ℕ) → 1 ≤ speed → from ≤ until → k < (until - from) * speed → slot_at from speed k < until
slots-before speed from k until positive begins h =
    let fewer : k / speed < until - from =
    (div-lt_iff_lt-mul {k = speed} {x = k} {y = until - from} (omega arith)).1 h in
    omega (arith, fewer)

-- Slots that are passed over, all before the microsecond until which the timer's line stays, count cycles.
pub passes_idle :
    (v : View) (from a speed until stop : ℕ) → speed ≡ v.numbers.speed → 1 ≤ speed → v.next < length v.cores →
    All (λ core. core.mcycle < 2 ^ 64) v.cores → IsIdle v (timer_up v.space.timer (slot_at from speed a)) →
    ((t : ℕ) → slot_at from speed a ≤ t → t < until →
    timer_up v.space.timer t ≡ timer_up v.space.timer (slot_at from speed a)) →
    from ≤ until → stop ≤ (until - from) * speed →
    stretch v from a (stop - a) ≡ quiet (passed v (stop - a))
passes_idle v from a speed until stop speed_is positive below fits idle stays begins ends =
    let timer = timer_up v.space.timer (slot_at from speed a) in
    let line : IsStillFor v timer from a (stop - a) =
    λ i h. subst (λ (q : ℕ). timer_up v.space.timer (slot_at from q (a + i)) ≡ timer) speed_is
    (stays (slot_at from speed (a + i)) (slots-rise speed from a i positive)
    (slots-before speed from (a + i) until positive begins (omega (arith, h, ends)))) in
    stretch-idle v timer from a (stop - a) below fits idle line

-- So the board `new` is it after the cycles.
pub passes :
    (s new : State) (from a n : ℕ) → new ≡ record s { view = passed s.view n } →
    stretch s.view from a n ≡ quiet (passed s.view n) → new ≡ after s (stretch s.view from a n)
passes s new from a n new_is idle = new_is ∙ passed_behind s (passed s.view n) ∙ ap (after s) (sym idle)
