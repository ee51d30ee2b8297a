-- What stands at each place of a list that was changed at one.
use Rattle.std.proofs.Common.{◌≡◌, ◌≢◌, ◌⊎◌, ℕ, zero, suc, ◌<◌, List, [], ◌∷◌, ◌++◌, length, set, refl, sym, ap, subst}
use Rattle.std.proofs.Common.{inl, inr, ⊎_elim, arith}
use mathlib.Core.Option.{some, some-injective, some-ne-none}
use lib.ListN.{get_elem?}
use Rattle.crossbeam_queue.proofs.Lists.{at_set}

-- F holds of each place with what stands there
abbrev pub Everywhere : {A : Type 0} → (ℕ → A → Type 0) → List A → Type 0
Everywhere {A} F xs = (k : ℕ) (x : A) → get_elem? xs k ≡ some x → F k x

pub below_length : {A : Type 0} (xs : List A) (k : ℕ) (x : A) → get_elem? xs k ≡ some x → k < length xs
below_length [] k x at = absurd (some-ne-none x (sym at))
below_length (y ∷ ys) zero x at = omega arith
below_length (y ∷ ys) (suc k) x at = let less = below_length ys k x at in omega arith

pub everywhere_set : {A : Type 0} (F : ℕ → A → Type 0) (xs : List A) (k : ℕ) (new : A) → F k new →
    ((j : ℕ) (x : A) → j ≢ k → get_elem? xs j ≡ some x → F j x) → Everywhere F (set xs k new)
everywhere_set {A} F xs k new here others j x at = ⊎_elim
    (λ (h : (j ≡ k) × (new ≡ x)). subst (λ (y : ℕ × A). F y.0 y.1) (λ i. (sym h.0 i, h.1 i)) here)
    (λ (h : (j ≢ k) × (get_elem? xs j ≡ some x)). others j x h.0 h.1)
    (at_set xs k j new x at)

pub at_end : {A : Type 0} (xs : List A) (last x : A) (k : ℕ) → get_elem? (xs ++ last ∷ []) k ≡ some x →
    (get_elem? xs k ≡ some x) ⊎ ((k ≡ length xs) × (last ≡ x))
at_end [] last x zero at = inr (refl, some-injective last x at)
at_end [] last x (suc k) at = absurd (some-ne-none x (sym at))
at_end (y ∷ ys) last x zero at = inl at
at_end (y ∷ ys) last x (suc k) at =
    ⊎_elim (λ h. inl h) (λ (h : (k ≡ length ys) × (last ≡ x)). inr (ap suc h.0, h.1)) (at_end ys last x k at)

pub everywhere_more : {A : Type 0} (F : ℕ → A → Type 0) (xs : List A) (last : A) → Everywhere F xs →
    F (length xs) last → Everywhere F (xs ++ last ∷ [])
everywhere_more {A} F xs last front end k x at = ⊎_elim
    (λ h. front k x h)
    (λ (h : (k ≡ length xs) × (last ≡ x)). subst (λ (y : ℕ × A). F y.0 y.1) (λ i. (sym h.0 i, h.1 i)) end)
    (at_end xs last x k at)

pub everywhere_one : {A : Type 0} (F : ℕ → A → Type 0) (only : A) → F 0 only → Everywhere F (only ∷ [])
everywhere_one F only here zero x at = subst (F 0) (some-injective only x at) here
everywhere_one F only here (suc k) x at = absurd (some-ne-none x (sym at))
