-- Writing and reading a value for each key of a list, as loops do.
use Rattle.std.proofs.Common.{◌≡◌, ℕ, ◌+◌, ◌≤◌, ◌<◌, List, [], ◌∷◌, ◌++◌, length, drop, Option, Some, None, refl, sym}
use Rattle.std.proofs.Common.{ap, ◌∙◌}
use Rattle.std.specs.Prelude.{slice_index_or}
use Rattle.std.specs.List.{AllByRecursion, zip}
use Rattle.std.proofs.lemmas.List.{append-nil, drop_more, drop_all}
use Rattle.lab_encoding.specs.Form.{Form}
use Rattle.lab_encoding.specs.Combine.{each, parse_each}
use Rattle.lab_encoding.specs.Inner.Fronts.{regroup, with_front}

-- ---- reading

-- the values so far and those of the keys that are left are all of them
abbrev pub IsHalfRead : {K A : Type 0} → (K → Form A) → List K → List ℕ → List A → ℕ → List ℕ → Type 0
IsHalfRead f ks bytes front i rest = with_front front (parse_each f (drop i ks) rest) ≡ parse_each f ks bytes

none_before : {A : Type 0} (read : Option (List A × List ℕ)) → with_front [] read ≡ read
none_before (Some x) = refl
none_before None = refl

pub half_read_none : {K A : Type 0} (f : K → Form A) (ks : List K) (bytes : List ℕ) → IsHalfRead f ks bytes [] 0 bytes
half_read_none f ks bytes = none_before (parse_each f ks bytes)

pub half_read_more : {K A : Type 0} (f : K → Form A) (ks : List K) (bytes : List ℕ) (front : List A) (i : ℕ)
    (rest : List ℕ) (d : K) (x : A) (after : List ℕ) → i < length ks →
    (f (slice_index_or ks i d)).parse rest ≡ Some (x, after) → IsHalfRead f ks bytes front i rest →
    IsHalfRead f ks bytes (front ++ x ∷ []) (i + 1) after
unfolding parse_each
half_read_more f ks bytes front i rest d x after lt read so_far =
    let one :
    with_front front (parse_each f (drop i ks) rest) ≡
    with_front (front ++ x ∷ []) (parse_each f (drop (i + 1) ks) after) =
    rw (drop_more ks i d lt, read) (regroup front x (parse_each f (drop (i + 1) ks) after)) in
    sym one ∙ so_far

pub half_read_bad : {K A : Type 0} (f : K → Form A) (ks : List K) (bytes : List ℕ) (front : List A) (i : ℕ)
    (rest : List ℕ) (d : K) → i < length ks → (f (slice_index_or ks i d)).parse rest ≡ None →
    IsHalfRead f ks bytes front i rest → parse_each f ks bytes ≡ None
unfolding parse_each
half_read_bad f ks bytes front i rest d lt read so_far =
    let one : with_front front (parse_each f (drop i ks) rest) ≡ None = rw (drop_more ks i d lt, read) refl in
    sym so_far ∙ one

pub half_read_all : {K A : Type 0} (f : K → Form A) (ks : List K) (bytes : List ℕ) (front : List A) (i : ℕ)
    (rest : List ℕ) → length ks ≤ i → IsHalfRead f ks bytes front i rest → parse_each f ks bytes ≡ Some (front, rest)
unfolding parse_each
half_read_all f ks bytes front i rest le so_far =
    let one : with_front front (parse_each f (drop i ks) rest) ≡ Some (front, rest) =
    rw (drop_all i ks le) (ap (λ (xs : List _). Some (xs, rest)) (append-nil front)) in
    sym so_far ∙ one

-- ---- writing

-- the spellings from one place on
abbrev pub left : {K A : Type 0} → (K → Form A) → List K → List A → ℕ → List ℕ
left f ks xs i = (each f (drop i ks)).spell (drop i xs)

-- the values from one place on fit
abbrev pub FitLeft : {K A : Type 0} → (K → Form A) → List K → List A → ℕ → Type 0
FitLeft f ks xs i = AllByRecursion (λ p. (f p.0).Fits p.1) (zip (drop i ks) (drop i xs))

pub left_more : {K A : Type 0} (f : K → Form A) (ks : List K) (xs : List A) (i : ℕ) (d : K) (e : A) → i < length ks →
    i < length xs →
    left f ks xs i ≡ (f (slice_index_or ks i d)).spell (slice_index_or xs i e) ++ left f ks xs (i + 1)
left_more f ks xs i d e in_ks in_xs = rw (drop_more ks i d in_ks, drop_more xs i e in_xs) refl

pub left_none : {K A : Type 0} (f : K → Form A) (ks : List K) (xs : List A) (i : ℕ) → length ks ≤ i →
    left f ks xs i ≡ []
left_none f ks xs i le = rw (drop_all i ks le) refl

pub fit_left_more : {K A : Type 0} (f : K → Form A) (ks : List K) (xs : List A) (i : ℕ) (d : K) (e : A) →
    i < length ks → i < length xs → (f (slice_index_or ks i d)).Fits (slice_index_or xs i e) →
    FitLeft f ks xs (i + 1) → FitLeft f ks xs i
fit_left_more f ks xs i d e in_ks in_xs fits rest =
    rw (drop_more ks i d in_ks, drop_more xs i e in_xs) (fits, rest)

pub fit_left_none : {K A : Type 0} (f : K → Form A) (ks : List K) (xs : List A) (i : ℕ) → length ks ≤ i →
    FitLeft f ks xs i
fit_left_none f ks xs i le = rw (drop_all i ks le) tt
