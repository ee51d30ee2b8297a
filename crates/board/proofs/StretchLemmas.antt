-- Laws of slots one after another.
use Rattle.std.proofs.Common.{◌≡◌, ℕ, zero, suc, ◌+◌, ◌*◌, ◌/◌, ◌<◌, ◌≤◌, List, [], ◌∷◌, sum, refl, sym, ap, ◌∙◌}
use Rattle.std.proofs.Common.{append_assoc, add-one, add-zero, add-suc, add_assoc, arith}
use Rattle.std.proofs.lemmas.List.Sums.{sum_by-cons}
use Rattle.std.proofs.lemmas.Nat.{div-mul-add}
use Rattle.std.proofs.Math.Nat.{suc-mul}
use Rattle.lab_num.specs.Paid.{slot_at}
use Rattle.board.specs.View.{View, State, quiet, after}
use Rattle.board.specs.Slot.{slot}
use Rattle.board.specs.Stretch.{stretch, in_turns}
use Rattle.board.proofs.NumberLemmas.{speed-stretch}
use Rattle.board.proofs.SlotLemmas.{quiet-behind}

-- what is made one after another comes in order
pub after-after : (s run more : State) → after (after s run) more ≡ after s (after run more)
after-after s run more =
    rw (append_assoc s.posts run.posts more.posts, append_assoc s.entries run.entries more.entries) refl

-- no slots leave the board as it is
pub after_none : (s : State) (from a : ℕ) → s ≡ after s (stretch s.view from a 0)
unfolding stretch
after_none s from a = quiet-behind s

-- one slot more
pub after_more :
    (s mid new : State) (from a i t : ℕ) →
    mid ≡ after s (stretch s.view from a i) →
    new ≡ after mid (slot mid.view t) →
    t ≡ slot_at from s.view.numbers.speed (a + i) →
    new ≡ after s (stretch s.view from a (i + 1))
unfolding stretch
after_more s mid new from a i t reached slotted time =
    slotted ∙ rw (reached, time, add-one) (after-after s (stretch s.view from a i) _)

-- where all slots of a microsecond are behind, the next one begins another
pub micros_begins : (k q r w : ℕ) → k ≡ q * r + w → w ≡ r → k ≡ (q + 1) * r + 0
micros_begins k q r w here full =
    let more : (q + 1) * r ≡ q * r + r = rw (add-one) (suc-mul q r) in
    omega (arith, here, full, more)

-- a stretch and the one after it are one stretch
pub stretch-add :
    (v : View) (from a m n : ℕ) →
    stretch v from a (m + n) ≡ after (stretch v from a m) (stretch (stretch v from a m).view from (a + m) n)
unfolding stretch
stretch-add v from a m zero = rw (add-zero) (quiet-behind (stretch v from a m))
stretch-add v from a m (suc n) =
    rw (add-suc, stretch-add v from a m n, speed-stretch v from a m, add_assoc)
    (after-after (stretch v from a m) (stretch (stretch v from a m).view from (a + m) n) _)

stretch-none : (v : View) (from a : ℕ) → quiet v ≡ stretch v from a 0
unfolding stretch
stretch-none v from a = refl

-- turns one after another are the whole stretch
pub turns-add :
    (v : View) (from a : ℕ) (turns : List ℕ) → in_turns v from a turns ≡ stretch v from a (sum turns)
turns-add v from a [] = stretch-none v from a
turns-add v from a (n ∷ turns) =
    let rest = turns-add (stretch v from a n).view from (a + n) turns in
    rw (sum_by-cons (λ x. x) n turns, stretch-add v from a n (sum turns), rest) refl

-- the microsecond of the next slot
pub slot_time :
    (from a i q r w speed : ℕ) → a + i ≡ q * r + w → w < r → r ≡ speed → from + q ≡ slot_at from speed (a + i)
slot_time from a i q r w speed here within is =
    let quotient : (a + i) / r ≡ q = ap (λ x. x / r) here ∙ div-mul-add _ _ _ within in
    ap (λ x. from + x) (sym quotient ∙ ap (λ s. (a + i) / s) is)

-- slots that lie in the same microseconds, whatever the grant that they are counted from
stretch-same :
    (v : View) (from a from' a' n : ℕ) →
    ((j : ℕ) → j < n → slot_at from v.numbers.speed (a + j) ≡ slot_at from' v.numbers.speed (a' + j)) →
    stretch v from a n ≡ stretch v from' a' n
unfolding stretch
stretch-same v from a from' a' zero same = refl
stretch-same v from a from' a' (suc n) same =
    rw (stretch-same v from a from' a' n (λ j h. same j (omega arith)), same n (omega arith)) refl

-- a stretch after a stretch, of boards that have made something before
pub after_stretch :
    (s mid new : State) (from a m n : ℕ) →
    mid ≡ after s (stretch s.view from a m) → new ≡ after mid (stretch mid.view from (a + m) n) →
    new ≡ after s (stretch s.view from a (m + n))
after_stretch s mid new from a m n reached passed_on =
    let first = stretch s.view from a m in
    passed_on
    ∙ rw reached (after-after s first (stretch first.view from (a + m) n))
    ∙ ap (after s) (sym (stretch-add s.view from a m n))

-- slots more, all in the microsecond of the next one
pub after_slots :
    (s mid new : State) (from a i q r w m now : ℕ) →
    mid ≡ after s (stretch s.view from a i) → new ≡ after mid (stretch mid.view now 0 m) →
    a + i ≡ q * r + w → w + m ≤ r → r ≡ s.view.numbers.speed → now ≡ from + q →
    new ≡ after s (stretch s.view from a (i + m))
after_slots s mid new from a i q r w m now reached taken here within is time =
    let kept : mid.view.numbers.speed ≡ s.view.numbers.speed =
    ap {A = State} (λ b. b.view.numbers.speed) reached ∙ speed-stretch _ _ _ _ in
    let speed : r ≡ mid.view.numbers.speed = is ∙ sym kept in
    let same : (j : ℕ) → j < m →
    slot_at now mid.view.numbers.speed (0 + j) ≡ slot_at from mid.view.numbers.speed (a + i + j) =
    λ j h. sym (slot_time now 0 j 0 r j mid.view.numbers.speed (omega arith) (omega (arith, h, within)) speed)
    ∙ omega (arith, time)
    ∙ slot_time from (a + i) j q r (w + j) mid.view.numbers.speed
    (omega (arith, here)) (omega (arith, h, within)) speed in
    after_stretch s mid new from a i m reached
    (taken ∙ ap (after mid) (stretch-same mid.view now 0 from (a + i) m same))

-- one slot more of the same microsecond
pub after_next :
    (s mid new : State) (t i : ℕ) →
    mid ≡ after s (stretch s.view t 0 i) → new ≡ after mid (slot mid.view t) → i < s.view.numbers.speed →
    new ≡ after s (stretch s.view t 0 (i + 1))
after_next s mid new t i reached slotted within =
    let time : t ≡ slot_at t s.view.numbers.speed (0 + i) =
    omega arith ∙ slot_time t 0 i 0 s.view.numbers.speed i s.view.numbers.speed (omega arith) within refl in
    after_more s mid new t 0 i t reached slotted time
