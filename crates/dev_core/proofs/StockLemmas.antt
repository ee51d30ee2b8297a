-- Lists whose items are all seen as one value.
use Rattle.std.proofs.Common.{◌≡◌, ℕ, List, [], ◌∷◌, length, map, replicate, All, refl}
use Rattle.std.proofs.lemmas.List.Elements.{All-nil, All-cons, All-head, All-tail}

pub map-all_seen :
    {A B : Type 0} (see : A → B) (v : B) (xs : List A) → All (λ x. see x ≡ v) xs → map see xs ≡ replicate (length xs) v
map-all_seen see v [] all = refl
map-all_seen see v (x ∷ xs) all =
    let first = All-head (λ x. see x ≡ v) x xs all in
    let rest = map-all_seen see v xs (All-tail (λ x. see x ≡ v) x xs all) in
    rw (first, rest) refl

pub all_seen-map :
    {A B : Type 0} (see : A → B) (v : B) (xs : List A) → map see xs ≡ replicate (length xs) v → All (λ x. see x ≡ v) xs
all_seen-map see v [] same = All-nil (λ x. see x ≡ v)
all_seen-map see v (x ∷ xs) same = All-cons (λ x. see x ≡ v) x xs (cc) (all_seen-map see v xs (cc))

-- so many items are all seen as one value exactly where they are seen as that many of it
pub all_seen :
    {A B : Type 0} (see : A → B) (v : B) (xs : List A) (n : ℕ) →
    length xs ≡ n →
    (All (λ x. see x ≡ v) xs → map see xs ≡ replicate n v) × (map see xs ≡ replicate n v → All (λ x. see x ≡ v) xs)
all_seen see v xs n long = rw (← long) (map-all_seen see v xs, all_seen-map see v xs)
