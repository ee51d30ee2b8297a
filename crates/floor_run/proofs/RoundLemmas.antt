-- A job is run to its end, turn by turn.
use Rattle.std.proofs.Common.{◌≡◌, ◌≢◌, ◌∙◌, ℕ, zero, suc, ◌+◌, ◌-◌, ◌/◌, ◌<◌, ◌≤◌, min, List, [], ◌∷◌, ◌++◌}
use Rattle.std.proofs.Common.{length, map}
use Rattle.std.proofs.Common.{refl, sym, ap, subst, arith, get_or, length-append, Option, Some}
use mathlib.Core.Option.{some, some-injective}
use mathlib.Core.Logic.{dite}
use native.Mathlib.Decide.{ℕ_discrete}
use lib.ListN.{get_elem?}
use Rattle.atomic_table.proofs.Lists.{at_longer, at_last}
use Rattle.dev_core.specs.declared.post.Post.{Post}
use Rattle.floor_core.specs.Job.{Job, Rests}
use Rattle.floor_run.specs.Close.{ClosedAs, Closing}
use Rattle.floor_run.specs.Inner.Round.{Pairs, Ended, Partly, Finished}
use Rattle.floor_run.specs.Turns.{After, slots_left, IsTurned, AfterTurns, paid}
use Rattle.floor_run.proofs.TurnLemmas.{TurnsAdd, PostsAdd, left_after, adds_up, begins}

module _ {J S : Type 0} (meaning : J → Job S) (sent : J → List Post)
    (state_after : S → List (Option Post) → ℕ → S) where
  abbrev L : J → ℕ
  L = slots_left meaning

  abbrev Turned : J → ℕ → J → Type 0
  Turned = AfterTurns meaning sent state_after

  -- none of the slots yet
  pub whole :
      Rests state_after → (start : J) → (meaning start).unsent ≡ [] → Partly meaning sent state_after start start
  whole rests start none =
      let zero_is : paid meaning start 0 ≡ 0 = omega arith in (
        0,
        omega arith,
        subst (λ (n : ℕ). After meaning sent state_after start n start) zero_is
            (begins meaning sent state_after rests start none),
      )

  -- those of one turn more
  pub further :
      TurnsAdd state_after → PostsAdd state_after → (start job next : J) → Partly meaning sent state_after start job →
      IsTurned meaning sent state_after job next → Partly meaning sent state_after start next
  further turns more start job next p t =
      let n : ℕ = p.0 in
      let k : ℕ = L start in
      let m : ℕ = L job in
      let l : m ≡ k - n = left_after meaning sent state_after start job n p.2 in
      let below : n ≤ k = p.1 in (
        n + min 4096 m,
        omega arith,
        adds_up meaning sent state_after turns more start job next n (min 4096 m) (omega arith) p.2 t,
      )

  -- a turn leaves less
  pub nearer : (job next : J) → 0 < L job → IsTurned meaning sent state_after job next → L next < L job
  nearer job next some_left t =
      let m : ℕ = L job in
      let k : ℕ = L next in
      let l : k ≡ m - min 4096 m = left_after meaning sent state_after job next (min 4096 m) t in
      omega arith

  -- where nothing is left, all slots are taken
  pub ended :
      (start job : J) → Partly meaning sent state_after start job → L job ≤ 0 → Ended meaning sent state_after start job
  ended start job p none_left =
      let n : ℕ = p.0 in
      let k : ℕ = L start in
      let m : ℕ = L job in
      let l : m ≡ k - n = left_after meaning sent state_after start job n p.2 in
      let below : n ≤ k = p.1 in
      let all : n ≡ k = omega arith in
      subst (λ (i : ℕ). After meaning sent state_after start i job) all p.2

  -- what was closed and then finished is ended
  pub round :
      TurnsAdd state_after → PostsAdd state_after → (starts : List J) (cells : List (Option J)) (jobs : List J) →
      Closing L Turned starts cells → Pairs (Finished meaning sent state_after) cells jobs →
      Pairs (Ended meaning sent state_after) starts jobs
  round turns more starts cells jobs closed done = (
    done.0 ∙ closed.1,
    λ i start e. let c = closed.2 i start e in
        let d = done.1 i c.0 c.1 in
        let job : J = d.2.0 in
        let x : J = d.0 in
        let word : ℕ = get_or closed.0 (i + 1) 0 in
        let home : ClosedAs L Turned start word (Some job) = subst (ClosedAs L Turned start word) d.2.1 c.2 in
        let a : ℕ = paid meaning start (word / 4) in
        let k : ℕ = L start in
        let m : ℕ = L job in
        let l : m ≡ k - a = left_after meaning sent state_after start job a home.0 in
        let below : a ≤ k = omega arith in
        let all : a + m ≡ k = omega arith in
        let is_ended = d.2.2 (ap (λ (j : Job S). j.unsent) home.0.job_is) in
        let both = adds_up meaning sent state_after turns more start job x a m (omega arith) home.0 is_ended in
        (x, d.1, subst (λ (n : ℕ). After meaning sent state_after start n x) all both),
  )

at_before :
    {X : Type 0} (xs : List X) (x z : X) (i : ℕ) → i ≢ length xs →
    get_elem? (xs ++ x ∷ []) i ≡ some z → get_elem? xs i ≡ some z
at_before [] x z zero n e = absurd (n refl)
at_before [] x z (suc i) n e = e
at_before (y ∷ xs) x z zero n e = e
at_before (y ∷ xs) x z (suc i) n e = at_before xs x z i (λ h. n (ap suc h)) e

-- one pair more
pub pairs_more :
    {X Y : Type 0} (R : X → Y → Type 0) (xs : List X) (ys ys' : List Y) (x : X) (y : Y) →
    Pairs R xs ys → R x y → ys' ≡ ys ++ y ∷ [] → Pairs R (xs ++ x ∷ []) ys'
pairs_more {X} {Y} R xs ys ys' x y p related now = (
  ap length now ∙
      (length-append ys (y ∷ []) ∙ (ap (λ (n : ℕ). n + 1) p.0 ∙ sym (length-append xs (x ∷ [])))),
  λ i z e. dite (ℕ_discrete i (length xs))
      (λ same. let is : x ≡ z = some-injective x z (sym (at_last xs x i (sym same)) ∙ e) in (
        y,
        ap (λ (l : List Y). get_elem? l i) now ∙ at_last ys y i (p.0 ∙ sym same),
        subst (λ (w : X). R w y) is related,
      ))
      (λ n. let b = p.1 i z (at_before xs x z i n e) in
      (b.0, ap (λ (l : List Y). get_elem? l i) now ∙ at_longer ys (y ∷ []) i b.0 b.1, b.2)),
)

-- what holds of each pair holds of the lists
pub pairs_map :
    {X Y C : Type 0} (R : X → Y → Type 0) (f : X → C) (g : Y → C) → ((x : X) (y : Y) → R x y → g y ≡ f x) →
    (xs : List X) (ys : List Y) → Pairs R xs ys → map g ys ≡ map f xs
pairs_map R f g each [] [] p = refl
pairs_map R f g each [] (y ∷ ys) p = absurd (omega (arith, p.0))
pairs_map R f g each (x ∷ xs) [] p = absurd (omega (arith, p.0))
pairs_map {X} {Y} R f g each (x ∷ xs) (y ∷ ys) p =
    let first = p.1 0 x refl in
    let here : g y ≡ f x = ap g (some-injective y first.0 first.1) ∙ each x first.0 first.2 in
    let rest : map g ys ≡ map f xs = pairs_map R f g each xs ys (omega (arith, p.0), λ i z e. p.1 (suc i) z e) in
    λ k. here k ∷ rest k
