-- Lists and counts.
use Rattle.std.proofs.Common.{◌≡◌, ℕ, ◌+◌, ◌<◌, ◌≤◌, ◌∙◌, Bool, true, false, refl, sym, ap, List, [], ◌∷◌, ◌++◌}
use Rattle.std.proofs.Common.{count_by, if◌then◌else◌, arith, zero, suc, cond}
use Rattle.std.proofs.Common.{append_assoc, subst}
use Rattle.std.proofs.lemmas.List.Folds.{list_all-append, list_any-append}
use Rattle.std.proofs.lemmas.List.Sums.{sum_by-append, sum_by-cons, sum_by_push}
use Rattle.std.specs.List.{list_all, list_any, range_with_len}
use Rattle.std.proofs.lemmas.Bool.{and_from, or_parts}

pub count_push :
    {X : Type 0} (p : X → Bool) (xs : List X) (x : X) →
    count_by p (xs ++ x ∷ []) ≡ count_by p xs + (if p x then 1 else 0)
count_push p xs x = sum_by_push (λ y. if p y then 1 else 0) xs x

pub count_cons :
    {X : Type 0} (p : X → Bool) (x : X) (xs : List X) → count_by p (x ∷ xs) ≡ (if p x then 1 else 0) + count_by p xs
count_cons p x xs = sum_by-cons (λ y. if p y then 1 else 0) x xs

pub count_append :
    {X : Type 0} (p : X → Bool) (xs ys : List X) → count_by p (xs ++ ys) ≡ count_by p xs + count_by p ys
count_append p xs ys = sum_by-append (λ y. if p y then 1 else 0) xs ys

-- a test of each number of a range
pub all_in_range :
    (p : ℕ → Bool) (a n : ℕ) → ((i : ℕ) → a ≤ i → i < a + n → p i ≡ true) → list_all p (range_with_len a n) ≡ true
all_in_range p a zero each = refl
all_in_range p a (suc n) each =
    and_from (p a) _ (each a (omega arith) (omega arith))
    (all_in_range p (a + 1) n (λ i low high. each i (omega arith) (omega arith)))

pub all_append :
    {X : Type 0} (p : X → Bool) (xs ys : List X) → list_all p xs ≡ true → list_all p ys ≡ true →
    list_all p (xs ++ ys) ≡ true
all_append p xs ys one two = list_all-append p xs ys ∙ and_from _ _ one two

-- no element passes the test with one before it
abbrev pub NoneBefore : {X : Type 0} → (X → X → Bool) → List X → List X → Type 0
NoneBefore q before [] = Unit {0}
NoneBefore q before (x ∷ xs) = (list_any (q x) before ≡ false) × NoneBefore q (before ++ x ∷ []) xs

any_none : {X : Type 0} (p : X → Bool) (xs : List X) → list_any p xs ≡ false → count_by p xs ≡ 0
any_none p [] none = refl
any_none p (x ∷ xs) none =
    let parts = or_parts (p x) (list_any p xs) none in
    let one : cond {A = ℕ} (p x) 1 0 ≡ 0 = rw parts.0 refl in
    let rest = any_none p xs parts.1 in
    let sum = count_cons p x xs in
    omega (arith, one, rest, sum)

none_later :
    {X : Type 0} (q : X → X → Bool) → ((a b : X) → q a b ≡ q b a) → (front : List X) (x : X) (back xs : List X) →
    NoneBefore q (front ++ x ∷ back) xs → count_by (q x) xs ≡ 0
none_later q same front x back [] none = refl
none_later q same front x back (y ∷ ys) none =
    let split = or_parts (list_any (q y) front) (list_any (q y) (x ∷ back))
    (sym (list_any-append (q y) front (x ∷ back)) ∙ none.0) in
    let here : q x y ≡ false = same x y ∙ (or_parts (q y x) (list_any (q y) back) split.1).0 in
    let one : cond {A = ℕ} (q x y) 1 0 ≡ 0 = rw here refl in
    let later = none_later q same front x (back ++ y ∷ []) ys
    (subst (λ before. NoneBefore q before ys) (append_assoc front (x ∷ back) (y ∷ [])) none.1) in
    let sum = count_cons (q x) y ys in
    omega (arith, one, later, sum)

-- an element passes with none but itself
pub self_alone :
    {X : Type 0} (q : X → X → Bool) → ((a b : X) → q a b ≡ q b a) → (test : X → Bool) (before xs whole : List X) →
    ((x : X) → count_by (q x) whole ≡ cond {A = ℕ} (q x x) 1 0 → test x ≡ true) → whole ≡ before ++ xs →
    NoneBefore q before xs → list_all test xs ≡ true
self_alone q same test before [] whole one is none = refl
self_alone q same test before (x ∷ xs) whole one is none =
    let early = any_none (q x) before none.0 in
    let late = none_later q same before x [] xs none.1 in
    let two = count_append (q x) before (x ∷ xs) in
    let three = count_cons (q x) x xs in
    let all = ap (count_by (q x)) is in
    let here : count_by (q x) whole ≡ cond {A = ℕ} (q x x) 1 0 = omega (arith, early, late, two, three, all) in
    and_from (test x) (list_all test xs) (one x here)
    (self_alone q same test (before ++ x ∷ []) xs whole one (is ∙ sym (append_assoc before (x ∷ []) xs)) none.1)
