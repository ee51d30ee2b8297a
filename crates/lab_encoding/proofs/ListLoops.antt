-- Reading values one after the other, as a loop does.
use Rattle.std.proofs.Common.{◌≡◌, ℕ, suc, ◌-◌, ◌+◌, ◌≤◌, ◌<◌, List, [], ◌∷◌, ◌++◌, Some, None, refl, sym, ap}
use Rattle.std.proofs.Common.{◌∙◌, arith}
use Rattle.std.proofs.lemmas.List.{append-nil}
use Rattle.lab_encoding.specs.Form.{Form}
use Rattle.lab_encoding.specs.Combine.{parse_times}
use Rattle.lab_encoding.specs.Inner.Fronts.{regroup, with_front}

-- the items so far and those that are left are all of them
abbrev pub IsHalfRead : {A : Type 0} → Form A → ℕ → List ℕ → List A → ℕ → List ℕ → Type 0
IsHalfRead f count bytes front i rest = with_front front (parse_times f (count - i) rest) ≡ parse_times f count bytes

pub half_read_more : {A : Type 0} (f : Form A) (count : ℕ) (bytes : List ℕ) (front : List A) (i : ℕ) (rest : List ℕ)
    (x : A) (after : List ℕ) → i < count → f.parse rest ≡ Some (x, after) → IsHalfRead f count bytes front i rest →
    IsHalfRead f count bytes (front ++ x ∷ []) (i + 1) after
unfolding parse_times
half_read_more f count bytes front i rest x after lt read so_far =
    let k : count - i ≡ suc (count - (i + 1)) = omega arith in
    let one :
    with_front front (parse_times f (count - i) rest) ≡
    with_front (front ++ x ∷ []) (parse_times f (count - (i + 1)) after) =
    rw (k, read) (regroup front x (parse_times f (count - (i + 1)) after)) in
    sym one ∙ so_far

pub half_read_bad : {A : Type 0} (f : Form A) (count : ℕ) (bytes : List ℕ) (front : List A) (i : ℕ) (rest : List ℕ) →
    i < count → f.parse rest ≡ None → IsHalfRead f count bytes front i rest → parse_times f count bytes ≡ None
unfolding parse_times
half_read_bad f count bytes front i rest lt read so_far =
    let k : count - i ≡ suc (count - (i + 1)) = omega arith in
    let one : with_front front (parse_times f (count - i) rest) ≡ None = rw (k, read) refl in
    sym so_far ∙ one

pub half_read_all : {A : Type 0} (f : Form A) (count : ℕ) (bytes : List ℕ) (front : List A) (i : ℕ) (rest : List ℕ) →
    count ≤ i → IsHalfRead f count bytes front i rest → parse_times f count bytes ≡ Some (front, rest)
unfolding parse_times
half_read_all f count bytes front i rest le so_far =
    let k : count - i ≡ 0 = omega arith in
    let one : with_front front (parse_times f (count - i) rest) ≡ Some (front, rest) =
    rw k (ap (λ (xs : List _). Some (xs, rest)) (append-nil front)) in
    sym so_far ∙ one
