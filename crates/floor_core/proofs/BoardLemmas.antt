-- One item of a list, by its place.
use Rattle.std.proofs.Common.{◌≡◌, ◌≢◌, ◌⊎◌, ◌↔◌, ℕ, zero, suc, ◌<◌, List, [], ◌∷◌, length, get_or, drop}
use Rattle.std.proofs.Common.{refl, sym, ◌∙◌, ap, subst, inl, inr, arith, Option, Some, None, IsSomeAnd, slice_get, set}
use Rattle.std.proofs.lemmas.Option.{slice_get_read, same_Some}
use Rattle.lab_num.specs.Change.{change_at}
use Rattle.lab_num.proofs.ListLemmas.{set-change}

-- what is said of an item that may be there is said of the item that was read
pub there :
    {A : Type 0} (P : A → Type 0) (xs : List A) (i : ℕ) (x : A) →
    i < length xs → x ≡ get_or xs i x → IsSomeAnd (slice_get xs i) P ↔ P x
there P xs i x below read = rw (slice_get_read xs (length xs) i x refl below read) ((λ h. h), (λ h. h))

-- an item of which something is said is there
pub some_and : {A : Type 0} (P : A → Type 0) (o : Option A) → IsSomeAnd o P → (x : A) × (o ≡ Some x) × P x
some_and P None h = absurd h
some_and P (Some x) h = (x, refl, h)

pub within : {A : Type 0} (P : A → Type 0) (xs : List A) (i : ℕ) → IsSomeAnd (slice_get xs i) P → i < length xs
within P [] i h = absurd h
within P (x ∷ xs) zero h = omega arith
within P (x ∷ xs) (suc i) h = let rest = within P xs i h in omega arith

-- to write the changed item is to change it, also where the list is known by another name, as is the place
pub placed :
    {A : Type 0} (step : A → A) (bs items : List A) (k i : ℕ) (x y : A) →
    bs ≡ items → i ≡ k → k < length bs → x ≡ get_or items i x → y ≡ step x → set items i y ≡ change_at bs k step
placed step bs items k i x y same place below read is =
    set-change step items i read is ∙ (λ j. change_at (sym same j) (place j) step)

-- what was read at a place is there
pub read_at :
    {A : Type 0} (items : List A) (k i : ℕ) (x : A) →
    i ≡ k → k < length items → x ≡ get_or items i x → slice_get items k ≡ Some x
read_at items k i x place below read =
    slice_get_read items (length items) k x refl below (subst (λ j. x ≡ get_or items j x) place read)

pub said_of :
    {A : Type 0} (P : A → Type 0) (items : List A) (k i : ℕ) (x : A) →
    i ≡ k → k < length items → x ≡ get_or items i x → IsSomeAnd (slice_get items k) P → P x
said_of P items k i x place below read said = subst (λ o. IsSomeAnd o P) (read_at items k i x place below read) said

-- after a change an item is the changed one, or one that was there
pub changed_get :
    {A : Type 0} (step : A → A) (xs : List A) (k i : ℕ) (y : A) → slice_get (change_at xs k step) i ≡ Some y →
    ((i ≡ k) × (x : A) × (slice_get xs i ≡ Some x) × (y ≡ step x)) ⊎ ((i ≢ k) × (slice_get xs i ≡ Some y))
changed_get step [] k i y is = absurd (cc)
changed_get step (x ∷ xs) zero zero y is = inl (refl, x, refl, sym (same_Some (step x) y is))
changed_get step (x ∷ xs) zero (suc i) y is = inr ((λ h. omega arith), is)
changed_get step (x ∷ xs) (suc k) zero y is = inr ((λ h. omega arith), is)
changed_get step (x ∷ xs) (suc k) (suc i) y is =
    elim (changed_get step xs k i y is) [
      | inl h ↦ inl (ap suc h.0, h.1, h.2, h.3)
      | inr h ↦ inr (
        (λ e. h.0 (omega
            arith)),
        h.1,
      )
    ]

-- the first of some items
pub first_of : {A : Type 0} (xs : List A) → xs ≢ [] → (x : A) × (xs ≡ x ∷ drop 1 xs)
first_of [] some = absurd (some refl)
first_of (x ∷ xs) some = (x, refl)
