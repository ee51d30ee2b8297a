-- The laws of a job hold of a board that has a grant and a pass.
use Rattle.std.proofs.Common.{◌≡◌, ◌∙◌, ℕ, zero, suc, ◌+◌, ◌/◌, ◌<◌, ◌≤◌, List, Option, length, refl, sym, ap, subst}
use Rattle.std.proofs.Common.{arith}
use Rattle.std.proofs.lemmas.Nat.{le-div}
use Rattle.std.proofs.Math.Nat.{div-mul-le_self}
use Rattle.dev_core.specs.declared.post.Post.{Post}
use Rattle.board.specs.View.{State}
use Rattle.time_handle.specs.Grant.{Grant, elapsed}
use Rattle.hub_mail.specs.Pass.{Pass}
use Rattle.board_job.specs.Slots.{moved, moved_by, spent, state_after}

-- some slots and then some more are all of them
moved-add : (s : State × Grant) (a b : ℕ) → moved_by (moved_by s a) b ≡ moved_by s (a + b)
unfolding moved_by
moved-add s zero b =
    let none : b ≡ 0 + b = omega arith in
    ap (λ (n : ℕ). moved_by s n) none
moved-add s (suc a) b =
    let more : suc (a + b) ≡ suc a + b = omega arith in
    moved-add (moved s) a b ∙ ap (λ (n : ℕ). moved_by s n) more

-- so it is of the board with its pass, whatever the lists are
pub state-add : (s : (State × Grant) × Pass) (coming : List (Option Post)) (a b : ℕ) →
    state_after (state_after s coming a) coming b ≡ state_after s coming (a + b)
state-add s coming a b = ap (λ (m : State × Grant). (m, s.1)) (moved-add s.0 a b)

-- and no slot leaves all as it is
pub state-none : (s : (State × Grant) × Pass) (coming : List (Option Post)) → state_after s coming 0 ≡ s
unfolding moved_by
state-none s coming = refl

-- the grant after some slots
moved-grant : (s : State × Grant) (n : ℕ) → (moved_by s n).1 ≡ spent s.1 n
unfolding moved_by
moved-grant s zero =
    let none : s.1.used ≡ s.1.used + 0 = omega arith in
    λ k. record s.1 { used = none k }
moved-grant s (suc n) =
    let more : s.1.used + 1 + n ≡ s.1.used + suc n = omega arith in
    moved-grant (moved s) n ∙ (λ k. record s.1 { used = more k })

later : (u n v : ℕ) → u / v ≤ (u + n) / v
later u n zero = grind arith
later u n (suc v) =
    let below = div-mul-le_self u (suc v) in
    le-div (u / suc v) (u + n) (suc v) (omega arith) (omega arith)

-- no slot lies before an earlier one
pub state-rises : (s : (State × Grant) × Pass) (coming : List (Option Post)) (n : ℕ) → n < length coming →
    elapsed s.0.1 ≤ elapsed (state_after s coming n).0.1
state-rises s coming n below =
    let g : Grant = s.0.1 in
    let past : g.used / g.speed ≤ (g.used + n) / g.speed = later g.used n g.speed in
    let sum : elapsed g ≤ elapsed (spent g n) = omega arith in
    subst (λ (h : Grant). elapsed g ≤ elapsed h) (sym (moved-grant s.0 n)) sum
