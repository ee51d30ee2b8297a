-- Processors that go on at an address, one after another.
use Rattle.std.proofs.Common.{◌≡◌, ℕ, zero, suc, ◌+◌, List, [], ◌∷◌, ◌++◌, length, map, take, drop}
use Rattle.std.proofs.Common.{refl, ap, arith, append-nil}
use Rattle.std.proofs.Math.Seq.{take-length, drop-length}
use Rattle.std.specs.Prelude.{slice_index_or, slice_set}
use Rattle.rv_hart.specs.Core.{Core, initial}
use Rattle.board.specs.Changes.{with_pc}
use Rattle.board.specs.View.{View}
use Rattle.monitor.specs.Images.{with_each_pc}

abbrev pub at_pc : ℕ → Core → Core
at_pc pc core = record core { pc = pc }

-- the first of the processors go on at an address
abbrev pub with_first_pcs : View → ℕ → ℕ → View
with_first_pcs v pc n = record v { cores = map (at_pc pc) (take n v.cores) ++ drop n v.cores }

one_more :
    {A : Type 0} (f : A → A) (xs : List A) (n : ℕ) (d : A) →
    slice_set (map f (take n xs) ++ drop n xs) n (f (slice_index_or (map f (take n xs) ++ drop n xs) n d))
    ≡ map f (take (n + 1) xs) ++ drop (n + 1) xs
one_more f [] zero d = refl
one_more f [] (suc n) d = let next : suc n + 1 ≡ suc (n + 1) = omega arith in rw next refl
one_more f (x ∷ xs) zero d = refl
one_more f (x ∷ xs) (suc n) d =
    let next : suc n + 1 ≡ suc (n + 1) = omega arith in rw next (ap (λ ys. f x ∷ ys) (one_more f xs n d))

pub first_more :
    (v : View) (pc n : ℕ) → with_pc (with_first_pcs v pc n) n pc ≡ with_first_pcs v pc (n + 1)
first_more v pc n = ap (λ cores. record v { cores = cores }) (one_more (at_pc pc) v.cores n initial)

as_many : {A : Type 0} (f : A → A) (xs : List A) (n : ℕ) → length (map f (take n xs) ++ drop n xs) ≡ length xs
as_many f [] zero = refl
as_many f [] (suc n) = refl
as_many f (x ∷ xs) zero = refl
as_many f (x ∷ xs) (suc n) = ap suc (as_many f xs n)

pub first_length : (v : View) (pc n : ℕ) → length (with_first_pcs v pc n).cores ≡ length v.cores
first_length v pc n = as_many (at_pc pc) v.cores n

-- all of them do
pub first_all : (v : View) (pc n : ℕ) → n ≡ length v.cores → with_first_pcs v pc n ≡ with_each_pc v pc
first_all v pc n all =
    ap (λ cores. record v { cores = cores })
    (rw (all, take-length v.cores, drop-length v.cores, append-nil (map (at_pc pc) v.cores)) refl)
