-- How a list that may be untold grows, piece by piece.
use Rattle.std.proofs.Common.{◌≡◌, ℕ, ◌+◌, ◌-◌, List, [], ◌++◌, length, take, drop, Option, None, Some, refl}
use Rattle.std.proofs.Common.{append_assoc, append-nil}
use Rattle.std.proofs.Math.Seq.{take-add}
use Rattle.std.proofs.lemmas.List.{take_rest}
use Rattle.lab_io.specs.Known.{grown}

-- growing by two lists, one after the other, is growing by both
pub grown-append :
    {A : Type 0} (told : Option (List A)) (xs ys : List A) → grown (grown told xs) ys ≡ grown told (xs ++ ys)
grown-append None xs ys = refl
grown-append (Some told) xs ys = rw append_assoc refl

-- growing by nothing changes nothing
pub grown-nil : {A : Type 0} (told : Option (List A)) → grown told [] ≡ told
grown-nil None = refl
grown-nil (Some told) = rw append-nil refl

-- a list that has grown by the first `i` grows by `n` of the rest, and so by the first `i + n`
pub grown-take : {A : Type 0} (told now next : Option (List A)) (i n : ℕ) (xs : List A) →
    now ≡ grown told (take i xs) → next ≡ grown now (take n (take (length xs - i) (drop i xs))) →
    next ≡ grown told (take (i + n) xs)
grown-take told now next i n xs had came =
    rw (came, had, take_rest xs i, grown-append told (take i xs) (take n (drop i xs)), take-add i n xs) refl
