-- More than one word where one may stand.
use Rattle.std.proofs.Common.{◌≡◌, ℕ, ◌≤◌, List, [], ◌∷◌, map, length, Result, Err, refl, arith}
use Rattle.resc_read.specs.declared.command.LineCause.{LineCause}
use Rattle.resc_read.specs.declared.command.LineCause.TheVariants.{Arguments}
use Rattle.resc_read.specs.Arguments.{at_most_one}

pub too_many :
    {A B : Type 0} (sort : List ℕ → Result B LineCause) (f : A → List ℕ) (xs : List A) →
    2 ≤ length xs → at_most_one sort (map f xs) ≡ Err Arguments
too_many sort f [] many = absurd (omega arith)
too_many sort f (x ∷ []) many = absurd (omega arith)
too_many sort f (x ∷ y ∷ xs) many = refl
