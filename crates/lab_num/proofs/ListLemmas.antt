-- Lists: what holds of their items, and a change of one place.
use Rattle.std.proofs.Common.{◌≡◌, ◌∙◌, ℕ, zero, suc, ◌+◌, ◌<◌, Bool, true, false, ◌&&◌, cond, List, [], ◌∷◌, ◌++◌, set}
use Rattle.std.proofs.Common.{length, map, get_or, slice_get, find, Option, Some, None, All, refl, ap, arith}
use Rattle.std.specs.Prelude.{is_some}
use Rattle.std.specs.List.{list_all, range_with_len, AllByRecursion}
use Rattle.std.proofs.lemmas.Bool.{and_parts, false≢true}
use Rattle.std.proofs.lemmas.List.Elements.{All-cons, All-head, All-nil, All-tail}
use Rattle.std.proofs.lemmas.Option.{same_Some, slice_get-get_or}
use Rattle.std.proofs.lemmas.Simd.{map-map}
use Rattle.lab_num.specs.Change.{change_at}

-- ---- an item and its place

pub none_is : {A : Type 0} (o : Option A) → is_some o ≡ false → o ≡ None
none_is None is = refl
none_is (Some x) is = absurd (cc)

pub first_none : {A : Type 0} (xs : List A) → slice_get xs 0 ≡ None → xs ≡ []
first_none [] is = refl
first_none (x ∷ xs) is = absurd (cc)

-- the item between two parts of a list
pub get_middle : {A : Type 0} (xs : List A) (y : A) (ys : List A) → slice_get (xs ++ y ∷ ys) (length xs) ≡ Some y
get_middle [] y ys = refl
get_middle (x ∷ xs) y ys = get_middle xs y ys

-- ---- what all items pass

pub passes_at :
    {A : Type 0} (p : A → Bool) (xs : List A) (i : ℕ) (x : A) →
    list_all p xs ≡ true → slice_get xs i ≡ Some x → p x ≡ true
passes_at p [] i x all there = absurd (cc)
passes_at p (y ∷ ys) zero x all there = rw (← same_Some y x there) (and_parts (p y) (list_all p ys) all).0
passes_at p (y ∷ ys) (suc i) x all there = passes_at p ys i x (and_parts (p y) (list_all p ys) all).1 there

pub passes_each :
    {A : Type 0} (p : A → Bool) (xs : List A) (i : ℕ) (d : A) →
    list_all p xs ≡ true → i < length xs → p (get_or xs i d) ≡ true
passes_each p xs i d all within = passes_at p xs i (get_or xs i d) all (slice_get-get_or xs i d within)

-- what is found is among the items, and passes
pub found_passes :
    {A : Type 0} (p : A → Bool) (xs : List A) (x : A) →
    find p xs ≡ Some x → (p x ≡ true) × ((i : ℕ) × (slice_get xs i ≡ Some x))
found_passes p [] x found = absurd (cc)
found_passes {A} p (y ∷ ys) x found =
    elim (p y) as (λ b. p y ≡ b → cond {A = Option A} b (Some y) (find p ys) ≡ Some x →
    (p x ≡ true) × ((i : ℕ) × (slice_get (y ∷ ys) i ≡ Some x))) [
      | true ↦ λ passes same. (rw (← same_Some y x same) passes, (0, same))
      | false ↦ λ fails later. let rest = found_passes p ys x later in (rest.0, (suc rest.1.0, rest.1.1))
    ] refl found

-- what all numbers of a range pass, each of them does, and the other way round
pub range_passes :
    (p : ℕ → Bool) (a n i : ℕ) → list_all p (range_with_len a n) ≡ true → i < n → p (a + i) ≡ true
range_passes p a zero i all within = absurd (omega (arith, within))
range_passes p a (suc n) zero all within =
    let same : a + 0 ≡ a = omega arith in
    rw same (and_parts (p a) (list_all p (range_with_len (a + 1) n)) all).0
range_passes p a (suc n) (suc i) all within =
    let same : a + suc i ≡ a + 1 + i = omega arith in
    let rest = (and_parts (p a) (list_all p (range_with_len (a + 1) n)) all).1 in
    rw same (range_passes p (a + 1) n i rest (omega (arith, within)))

pub all_of_range :
    (p : ℕ → Bool) (a n : ℕ) → ((i : ℕ) → i < n → p (a + i) ≡ true) → list_all p (range_with_len a n) ≡ true
all_of_range p a zero each = refl
all_of_range p a (suc n) each =
    let first : p a ≡ true = let same : a + 0 ≡ a = omega arith in rw same at (each 0 (omega arith)) in
    let rest = all_of_range p (a + 1) n
    (λ i within. let same : a + suc i ≡ a + 1 + i = omega arith in rw same at (each (suc i) (omega (arith, within)))) in
    rw (first, rest) refl

-- a test that follows from two others is no more
pub implied :
    (p q r s : Bool) → (p ≡ true → r ≡ true → q ≡ true) → ((p && q) && (r && s)) ≡ (p && (r && s))
implied false q r s follows = refl
implied true true r s follows = refl
implied true false true s follows = absurd (false≢true (follows refl refl))
implied true false false s follows = refl

-- ---- what holds of each item

pub each-append :
    {A : Type 0} (P : A → Type 0) (xs ys : List A) → AllByRecursion P xs → AllByRecursion P ys →
    AllByRecursion P (xs ++ ys)
each-append P [] ys first second = second
each-append P (x ∷ xs) ys first second = (first.0, each-append P xs ys first.1 second)

pub each-weaker :
    {A : Type 0} (P Q : A → Type 0) → ((x : A) → P x → Q x) → (xs : List A) → AllByRecursion P xs → AllByRecursion Q xs
each-weaker P Q step [] all = tt
each-weaker P Q step (x ∷ xs) all = (step x all.0, each-weaker P Q step xs all.1)

-- what holds of each item of a map
pub All-unmap :
    {A B : Type 0} (P : B → Type 0) (f : A → B) (xs : List A) → All P (map f xs) → All (λ x. P (f x)) xs
All-unmap P f [] all = All-nil (λ x. P (f x))
All-unmap P f (x ∷ xs) all =
    All-cons (λ x. P (f x)) x xs (All-head P (f x) (map f xs) all) (All-unmap P f xs (All-tail P (f x) (map f xs) all))

-- ---- a change of one place

-- a write of what a change makes of the item that was read
pub set-change :
    {A : Type 0} (F : A → A) (xs : List A) (i : ℕ) {old new : A} → old ≡ get_or xs i old → new ≡ F old →
    set xs i new ≡ change_at xs i F
set-change F [] i is made = refl
set-change F (x ∷ xs) zero is made = ap (λ y. y ∷ xs) (made ∙ ap F is)
set-change F (x ∷ xs) (suc i) is made = ap (λ ys. x ∷ ys) (set-change F xs i is made)

-- a change, and a map, of what a map does not look at
pub map-change :
    {A B : Type 0} (g : A → B) (F : A → A) → ((x : A) → g (F x) ≡ g x) → (xs : List A) (i : ℕ) →
    map g (change_at xs i F) ≡ map g xs
map-change g F same [] i = refl
map-change g F same (x ∷ xs) zero = ap (λ y. y ∷ map g xs) (same x)
map-change g F same (x ∷ xs) (suc i) = ap (λ ys. g x ∷ ys) (map-change g F same xs i)

pub map-map_same :
    {A B : Type 0} (g : A → B) (F : A → A) → ((x : A) → g (F x) ≡ g x) → (xs : List A) → map g (map F xs) ≡ map g xs
map-map_same g F same xs = map-map g F xs ∙ (λ i. map (λ x. same x i) xs)

-- a place that is changed twice
pub change_twice :
    {A : Type 0} (xs : List A) (i : ℕ) (f g h : A → A) → ((x : A) → g (f x) ≡ h x) →
    change_at (change_at xs i f) i g ≡ change_at xs i h
change_twice [] i f g h same = refl
change_twice (x ∷ xs) zero f g h same = ap (λ y. y ∷ xs) (same x)
change_twice (x ∷ xs) (suc i) f g h same = ap (λ ys. x ∷ ys) (change_twice xs i f g h same)

pub length-change : {A : Type 0} (F : A → A) (xs : List A) (i : ℕ) → length (change_at xs i F) ≡ length xs
length-change F [] i = refl
length-change F (x ∷ xs) zero = refl
length-change F (x ∷ xs) (suc i) = ap suc (length-change F xs i)

pub change_last :
    {A : Type 0} (xs : List A) (i : ℕ) (x : A) (F : A → A) → i ≡ length xs →
    change_at (xs ++ x ∷ []) i F ≡ xs ++ F x ∷ []
change_last xs i x F is = rw is (last xs)
  where
    last : (xs : List _) → change_at (xs ++ x ∷ []) (length xs) F ≡ xs ++ F x ∷ []
    last [] = refl
    last (y ∷ ys) = ap (λ l. y ∷ l) (last ys)
