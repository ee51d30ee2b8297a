-- A piece of a piece of a list.
use Rattle.std.proofs.Common.{◌≡◌, ◌+◌, ◌-◌, ◌≤◌, ◌∙◌, ℕ, List, take, drop, length, sym, ap, arith}
use Rattle.std.proofs.lemmas.List.{drop-drop, drop-take, take-take, length-take}

pub piece_of_piece :
    {A : Type 0} (xs : List A) (from n at m : ℕ) → at + m ≤ n →
    take m (drop (from + at) xs) ≡ take m (drop at (take n (drop from xs)))
piece_of_piece {A} xs from n at m few =
    let rest = drop from xs in
    let parted : n ≡ at + (n - at) = omega arith in
    ap (take m) (sym (drop-drop at from xs))
    ∙ (sym (take-take m (n - at) (drop at rest) (omega arith))
    ∙ (ap (take m) (sym (drop-take at (n - at) rest))
    ∙ ap (λ k. take m (drop at (take k rest))) (sym parted)))

pub take-le : {A : Type 0} (n : ℕ) (xs : List A) → length (take n xs) ≤ n
take-le n xs = omega (arith, length-take n xs)
