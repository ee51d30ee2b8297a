-- How the processors of a board take its slots in turn. Of n slots from the one of `next` on, hart k of h takes
-- `n / h`, and one more where `(k + (h - next)) % h < n % h`.
use Rattle.std.proofs.Common.{◌≡◌, ℕ, zero, suc, ◌+◌, ◌-◌, ◌*◌, ◌/◌, ◌%◌, ◌<◌, ◌==◌, length}
use Rattle.std.proofs.Common.{nat_lt, sym, ap, ◌∙◌, inl, inr, add-one, arith}
use Rattle.std.specs.Prelude.{if◌then◌else◌, List, [], ◌∷◌, Option, slice_index_or, slice_set}
use Rattle.std.proofs.Math.Nat.{suc-mul, mod-eq_of_lt, mod_self}
use Rattle.std.proofs.lemmas.Bool.{cases_eq, cases_lt}
use Rattle.std.proofs.lemmas.Bool.Decides.{nat_tests}
use Rattle.std.proofs.lemmas.List.{map-id}
use Rattle.std.proofs.lemmas.List.FromFn.{sum_by-map-range_with_len_more}
use Rattle.std.proofs.lemmas.Nat.{div-add-mod', div-mul-add, mod-mul-add, mod_below}
use Rattle.rv_hart.specs.Core.{Core, initial}
use Rattle.board.specs.HartView.{SlotState, slot_state}
use Rattle.board.specs.Idle.{turns_of}
use Rattle.board.specs.Inner.Holds.{state_of, state_alone}
use Rattle.board.specs.Inner.Seat.{behind}
use Rattle.board.specs.Slot.{slot, hart_slot, number_after}
use Rattle.board.specs.View.{after}
use Rattle.board.specs.HartBus.{HartBus}

-- ---- whose turn is next

pub number_after_is : (harts hart : ℕ) → hart < harts → number_after harts hart ≡ (hart + 1) % harts
number_after_is harts hart below = elim (cases_eq (hart + 1) harts) [
  | inl last ↦ rw last (grind (arith, nat_tests, mod_self harts))
  | inr other ↦
      let next : hart + 1 < harts = omega (arith, below, other) in
      let same : (hart + 1) % harts ≡ hart + 1 = mod-eq_of_lt next in
      grind (arith, nat_tests, next, same)
]

-- ---- how many slots each takes

pub turns_more :
    (harts next n hart : ℕ) →
    turns_of harts next (suc n) hart
    ≡ turns_of harts next n hart + (if (next + n) % harts == hart then 1 else 0)
turns_more harts next n hart =
    rw (add-one, map-id, map-id) at
    (sum_by-map-range_with_len_more (λ i. if (next + i) % harts == hart then 1 else 0) (λ i. i) 0 n n (omega arith))

-- the first of its slots that a processor takes, where all take one of each so many in turn from `next` on
abbrev pub first_turn : ℕ → ℕ → ℕ → ℕ
first_turn harts next hart = (hart + (harts - next)) % harts

first_is :
    (harts next hart : ℕ) → next < harts → hart < harts →
    first_turn harts next hart ≡ (if nat_lt hart next then hart + (harts - next) else hart - next)
first_is harts next hart below there = elim (cases_lt hart next) [
  | inl before ↦
      let same : (hart + (harts - next)) % harts ≡ hart + (harts - next) =
      mod-eq_of_lt (omega (arith, before, below)) in
      grind (arith, nat_tests, before, same)
  | inr after ↦
      let sum : hart + (harts - next) ≡ 1 * harts + (hart - next) = omega (arith, after, below) in
      let same : (hart + (harts - next)) % harts ≡ hart - next =
      rw sum (mod-mul-add 1 harts (hart - next) (omega (arith, there))) in
      grind (arith, nat_tests, after, same)
]

-- whose turn it is after so many slots
turn_is :
    (harts next n : ℕ) → next < harts →
    (next + n) % harts
    ≡ (if nat_lt (next + n % harts) harts then next + n % harts else next + n % harts - harts)
turn_is harts next n below =
    let q = n / harts in
    let r = n % harts in
    let split : n ≡ q * harts + r = sym (div-add-mod' n harts) in
    let small : r < harts = mod_below n harts (omega (arith, below)) in
    elim (cases_lt (next + r) harts) [
      | inl within ↦
          let sum : next + n ≡ q * harts + (next + r) = omega (arith, split) in
          let same : (next + n) % harts ≡ next + r = rw sum (mod-mul-add q harts (next + r) within) in
          grind (arith, nat_tests, within, same)
      | inr past ↦
          let more : (q + 1) * harts ≡ q * harts + harts = rw (add-one) (suc-mul q harts) in
          let sum : next + n ≡ (q + 1) * harts + (next + r - harts) = omega (arith, split, past, more) in
          let same : (next + n) % harts ≡ next + r - harts =
          rw sum (mod-mul-add (q + 1) harts (next + r - harts) (omega (arith, small, below))) in
          grind (arith, nat_tests, past, same)
    ]

-- a processor's turn comes where its first one does
turn_comes :
    (harts next n hart : ℕ) → next < harts → hart < harts →
    ((next + n) % harts == hart) ≡ (first_turn harts next hart == n % harts)
turn_comes harts next n hart below there =
    let small : n % harts < harts = mod_below n harts (omega (arith, below)) in
    rw (turn_is harts next n below, first_is harts next hart below there)
    (by_places harts next (n % harts) hart below there small)
  where
    by_places :
        (harts next r hart : ℕ) → next < harts → hart < harts → r < harts →
        ((if nat_lt (next + r) harts then next + r else next + r - harts) == hart)
        ≡ ((if nat_lt hart next then hart + (harts - next) else hart - next) == r)
    by_places harts next r hart below there small = grind (arith, nat_tests, below, there, small)

-- what one more slot adds to quotient and remainder
one_more :
    (harts n first : ℕ) → first < harts →
    n / harts + (if nat_lt first (n % harts) then 1 else 0) + (if first == n % harts then 1 else 0)
    ≡ suc n / harts + (if nat_lt first (suc n % harts) then 1 else 0)
one_more harts n first below =
    let q = n / harts in
    let r = n % harts in
    let split : n ≡ q * harts + r = sym (div-add-mod' n harts) in
    let small : r < harts = mod_below n harts (omega (arith, below)) in
    elim (cases_eq (r + 1) harts) [
      | inl last ↦
          let more : (q + 1) * harts ≡ q * harts + harts = rw (add-one) (suc-mul q harts) in
          let sum : suc n ≡ (q + 1) * harts + 0 = omega (arith, split, last, more) in
          let quotient : suc n / harts ≡ q + 1 = rw sum (div-mul-add (q + 1) harts 0 (omega (arith, below))) in
          let rest : suc n % harts ≡ 0 = rw sum (mod-mul-add (q + 1) harts 0 (omega (arith, below))) in
          rw (quotient, rest) (grind (arith, nat_tests, below, last))
      | inr other ↦
          let sum : suc n ≡ q * harts + (r + 1) = omega (arith, split) in
          let within : r + 1 < harts = omega (arith, small, other) in
          let quotient : suc n / harts ≡ q = rw sum (div-mul-add q harts (r + 1) within) in
          let rest : suc n % harts ≡ r + 1 = rw sum (mod-mul-add q harts (r + 1) within) in
          rw (quotient, rest) (grind (arith, nat_tests, below, small))
    ]

pub turns_are :
    (harts next n hart : ℕ) → next < harts → hart < harts →
    turns_of harts next n hart
    ≡ n / harts + (if nat_lt (first_turn harts next hart) (n % harts) then 1 else 0)
turns_are harts next zero hart below there = grind (arith, nat_tests, below)
turns_are harts next (suc n) hart below there =
    let first = first_turn harts next hart in
    let small : first < harts = mod_below _ _ (omega (arith, below)) in
    turns_more harts next n hart
    ∙ rw (turns_are harts next n hart below there, turn_comes harts next n hart below there)
    (one_more harts n first small)

-- ---- a slot that a processor has taken, as one of the board

-- the processor `next` has done its slot
pub taken_in_turn :
    (cores : List Core) (next : ℕ) (core' : Core) (watch watch' : List (Option ℕ)) (w w' : HartBus) (t : ℕ) →
    let old = slot_state next (slice_index_or cores next initial) watch w in
    slot_state next core' watch' w' ≡ behind old (hart_slot old.view t) →
    state_of (slice_set cores next core') (number_after (length cores) next) watch' w'
    ≡ after (state_of cores next watch w) (slot (state_of cores next watch w).view t)
unfolding slot
taken_in_turn cores next core' watch watch' w w' t is =
    ap {A = SlotState} (λ h. record {
      view = record {
        numbers = h.view.numbers;
        cores = slice_set cores next h.view.core;
        next = number_after (length cores) next;
        watch = h.view.watch;
        space = h.view.space;
      };
      posts = h.posts;
      entries = h.entries;
    }) is

-- the only processor has done its slot
pub taken_alone :
    (core core' : Core) (watch watch' : List (Option ℕ)) (w w' : HartBus) (t : ℕ) →
    let old = slot_state 0 core watch w in
    slot_state 0 core' watch' w' ≡ behind old (hart_slot old.view t) →
    state_alone core' watch' w'
    ≡ after (state_alone core watch w) (slot (state_alone core watch w).view t)
taken_alone core core' watch watch' w w' t is = taken_in_turn (core ∷ []) 0 core' watch watch' w w' t is
