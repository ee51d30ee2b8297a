-- Values that were read before others, as in a loop.
use Rattle.std.proofs.Common.{◌≡◌, ℕ, List, [], ◌∷◌, ◌++◌, Option, Some, None, refl, sym, ap, append_assoc}
use Rattle.std.specs.Prelude.{Err}
use Rattle.lab_encoding.specs.Combine.{◌>>=◌}
use Rattle.lab_encoding.specs.Reads.{Reads}
use Rattle.lab_encoding.specs.declared.fault.SnapFault.{SnapFault}
use Rattle.lab_encoding.specs.declared.fault.SnapFault.TheVariants.{Bad, Memory}

-- what was read before, and what is still read
abbrev pub with_front : {A : Type 0} → List A → Option (List A × List ℕ) → Option (List A × List ℕ)
with_front front read = read >>= λ x. Some (front ++ x.0, x.1)

pub regroup : {A : Type 0} (front : List A) (x : A) (read : Option (List A × List ℕ)) →
    with_front front (read >>= λ y. Some (x ∷ y.0, y.1)) ≡ with_front (front ++ x ∷ []) read
regroup front x (Some y) = ap (λ (xs : List _). Some (xs, y.1)) (sym (append_assoc front (x ∷ []) y.0))
regroup front x None = refl

-- a fault in a part is a fault in the whole
pub is_fault : {A B : Type 0} (e : SnapFault) (part : Option (A × List ℕ)) (whole : Option (B × List ℕ)) (rest : List ℕ)
    → Reads part rest (Err e) → (part ≡ None → whole ≡ None) → Reads {X = B} whole rest (Err e)
is_fault Bad part whole rest h so = so h
is_fault Memory part whole rest h so = tt
