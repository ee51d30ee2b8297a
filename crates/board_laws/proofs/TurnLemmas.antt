-- How the processors of a board take its slots in turn.
use Rattle.std.proofs.Common.{◌≡◌, ℕ, zero, suc, ◌+◌, ◌-◌, ◌*◌, ◌/◌, ◌%◌, ◌<◌, ◌≤◌, ◌==◌, Bool, true, false}
use Rattle.std.proofs.Common.{length, nat_lt, refl, sym, ◌∙◌, add-one, arith}
use Rattle.std.specs.Prelude.{if◌then◌else◌}
use Rattle.std.proofs.Math.Nat.{suc-mul, suc-mod, mod-eq_of_lt, div-lt_iff_lt-mul, le-div_iff_mul-le}
use Rattle.std.proofs.lemmas.Bool.Decides.{nat_tests}
use Rattle.std.proofs.lemmas.Nat.{mod_below}
use Rattle.lab_num.specs.Paid.{slot_at}
use Rattle.board.specs.Idle.{turns_of}
use Rattle.board.specs.Slot.{slot, number_after}
use Rattle.board.specs.Stretch.{stretch}
use Rattle.board.specs.View.{View}
use Rattle.board.proofs.NumberLemmas.{cores-stretch}
use Rattle.board.proofs.TurnLemmas.{number_after_is, turns_more}

-- ---- whose turn is next

-- after one slot more
next_more : (harts next n : ℕ) → next < harts → (next + suc n) % harts ≡ number_after harts ((next + n) % harts)
next_more harts next n below =
    let within : (next + n) % harts < harts = mod_below _ _ (omega (arith, below)) in
    let more : next + suc n ≡ suc (next + n) = omega arith in
    rw (number_after_is harts _ within, more, suc-mod (next + n) harts, add-one) refl

next_none : (harts next : ℕ) → next < harts → (next + zero) % harts ≡ next
next_none harts next below =
    let none : next + zero ≡ next = omega arith in
    rw none (mod-eq_of_lt below)

next-slot : (v : View) (t : ℕ) → (slot v t).view.next ≡ number_after (length v.cores) v.next
unfolding slot
next-slot v t = refl

pub next-stretch :
    (v : View) (from a n : ℕ) → v.next < length v.cores →
    (stretch v from a n).view.next ≡ (v.next + n) % length v.cores
unfolding stretch
next-stretch v from a zero below = sym (next_none (length v.cores) v.next below)
next-stretch v from a (suc n) below =
    let run = (stretch v from a n).view in
    next-slot run (slot_at from v.numbers.speed (a + n))
    ∙ rw (cores-stretch v from a n, next-stretch v from a n below, next_more (length v.cores) v.next n below) refl

-- a board of one processor has no other to take its slots
pub next_alone : (v : View) (t : ℕ) → length v.cores ≡ 1 → v.next ≡ 0 → (slot v t).view.next ≡ 0
next_alone v t one first = next-slot v t ∙ rw (one, first) refl

-- ---- how many slots each takes

-- the slots until a processor's next one, where the next slot is that of `next`
abbrev pub until_turn : ℕ → ℕ → ℕ → ℕ
until_turn harts next hart = if nat_lt hart next then hart + (harts - next) else hart - next

-- each slot brings the turn of a processor nearer by one, or is its own
turn_nearer :
    (harts place hart : ℕ) → place < harts → hart < harts →
    (if place == hart then harts else 0) + until_turn harts place hart
    ≡ 1 + until_turn harts (number_after harts place) hart
turn_nearer harts place hart below there = grind (arith, nat_tests, below, there)

-- a processor has taken k of n slots: k times the number of processors, and the slots until its turn at their
-- beginning, are n and the slots until its turn at their end
turns_counted :
    (harts next n hart : ℕ) → next < harts → hart < harts →
    turns_of harts next n hart * harts + until_turn harts next hart
    ≡ n + until_turn harts ((next + n) % harts) hart
turns_counted harts next zero hart below there = rw (next_none harts next below) (omega arith)
turns_counted harts next (suc n) hart below there =
    let place = (next + n) % harts in
    let turns = turns_of harts next n hart in
    let before = turns_counted harts next n hart below there in
    let nearer = turn_nearer harts place hart (mod_below _ _ (omega (arith, below))) there in
    rw (turns_more harts next n hart, next_more harts next n below, taken (place == hart) turns)
    (omega (arith, before, nearer))
  where
    taken : (b : Bool) (turns : ℕ) → (turns + (if b then 1 else 0)) * harts ≡ turns * harts + (if b then harts else 0)
    taken true turns = rw (add-one) (suc-mul turns harts)
    taken false turns = omega arith

-- each takes its share, or one more
pub turns_fair :
    (harts next n hart : ℕ) → next < harts → hart < harts →
    (n / harts ≤ turns_of harts next n hart) × (turns_of harts next n hart ≤ n / harts + 1)
turns_fair harts next n hart below there =
    let place = (next + n) % harts in
    let turns = turns_of harts next n hart in
    let is = turns_counted harts next n hart below there in
    (at_least turns _ _ is (within next), at_most turns _ _ is (within place))
  where
    within : (place : ℕ) → until_turn harts place hart < harts
    within place = grind (arith, nat_tests, there)

    at_least :
        (turns before after : ℕ) → turns * harts + before ≡ n + after → before < harts → n / harts ≤ turns
    at_least turns before after is short =
        let more : suc turns * harts ≡ turns * harts + harts = suc-mul turns harts in
        let fewer : n / harts < suc turns =
        (div-lt_iff_lt-mul {k = harts} {x = n} {y = suc turns} (omega (arith, below))).1
        (omega (arith, is, short, more)) in
        omega (arith, fewer)

    at_most :
        (turns before after : ℕ) → turns * harts + before ≡ n + after → after < harts → turns ≤ n / harts + 1
    at_most zero before after is short = omega arith
    at_most (suc turns) before after is short =
        let more : suc turns * harts ≡ turns * harts + harts = suc-mul turns harts in
        let whole : turns ≤ n / harts =
        (le-div_iff_mul-le {k = harts} {x = turns} {y = n} (omega (arith, below))).1
        (omega (arith, is, short, more)) in
        omega (arith, whole)
