-- What searches of the numbers from one on find.
use Rattle.std.proofs.Common.{◌≡◌, ℕ, zero, suc, ◌+◌, ◌<◌, ◌≤◌, Bool, true, false, Some, None, find, inl, inr, refl}
use Rattle.std.proofs.Common.{arith}
use Rattle.std.specs.List.{list_all, list_any, range_with_len}
use Rattle.std.proofs.lemmas.Bool.{cases_Bool, cases_eq}

-- no number passes
pub find-none : (p : ℕ → Bool) (a n : ℕ) → ((s : ℕ) → a ≤ s → s < a + n → p s ≡ false) →
    find p (range_with_len a n) ≡ None
find-none p a zero f = refl
find-none p a (suc n) f =
    rw (f a (omega arith) (omega arith))
    (find-none p (a + 1) n (λ s low high. f s (omega arith) (omega arith)))

-- a number passes, and none before it does
pub find-first : (p : ℕ → Bool) (a n i : ℕ) → a ≤ i → i < a + n → p i ≡ true →
    ((s : ℕ) → a ≤ s → s < i → p s ≡ false) → find p (range_with_len a n) ≡ Some i
find-first p a zero i low high t f = absurd (omega arith)
find-first p a (suc n) i low high t f = elim (cases_eq i a) [
  | inl here ↦
      let first : p a ≡ true = rw here at t in
      rw here (rw first refl)
  | inr later ↦
      rw (f a (omega arith) (omega arith))
      (find-first p (a + 1) n i (omega arith) (omega arith) t (λ s from to. f s (omega arith) to))
]

-- whether any number passes
pub list_any-none : (p : ℕ → Bool) (a n : ℕ) → ((s : ℕ) → a ≤ s → s < a + n → p s ≡ false) →
    list_any p (range_with_len a n) ≡ false
list_any-none p a zero f = refl
list_any-none p a (suc n) f =
    rw (f a (omega arith) (omega arith))
    (list_any-none p (a + 1) n (λ s low high. f s (omega arith) (omega arith)))

pub list_any-found : (p : ℕ → Bool) (a n i : ℕ) → a ≤ i → i < a + n → p i ≡ true →
    list_any p (range_with_len a n) ≡ true
list_any-found p a zero i low high t = absurd (omega arith)
list_any-found p a (suc n) i low high t = elim (cases_Bool (p a)) [
  | inl passes ↦ rw passes refl
  | inr fails ↦ elim (cases_eq i a) [
    | inl here ↦
        let first : p a ≡ true = rw here at t in
        rw first refl
    | inr later ↦ rw fails (list_any-found p (a + 1) n i (omega arith) (omega arith) t)
  ]
]

-- whether each number passes
pub list_all-each : (p : ℕ → Bool) (a n : ℕ) → ((s : ℕ) → a ≤ s → s < a + n → p s ≡ true) →
    list_all p (range_with_len a n) ≡ true
list_all-each p a zero f = refl
list_all-each p a (suc n) f =
    rw (f a (omega arith) (omega arith))
    (list_all-each p (a + 1) n (λ s low high. f s (omega arith) (omega arith)))

pub list_all-fails : (p : ℕ → Bool) (a n i : ℕ) → a ≤ i → i < a + n → p i ≡ false →
    list_all p (range_with_len a n) ≡ false
list_all-fails p a zero i low high t = absurd (omega arith)
list_all-fails p a (suc n) i low high t = elim (cases_Bool (p a)) [
  | inl passes ↦ elim (cases_eq i a) [
    | inl here ↦
        let first : p a ≡ false = rw here at t in
        rw first refl
    | inr later ↦ rw passes (list_all-fails p (a + 1) n i (omega arith) (omega arith) t)
  ]
  | inr fails ↦ rw fails refl
]
