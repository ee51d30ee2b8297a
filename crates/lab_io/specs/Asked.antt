-- Which names of a list have been asked for. `Rattle.lab_io.proofs.Asking` has the lemmas on lists one after another.
use Rattle.std.specs.Prelude.{◌≡◌, ℕ, List, [], ◌∷◌, ◌++◌, Option}
use Rattle.lab_io.specs.Known.{grown}

-- the names that have been asked for so far, in order, where they are told
abbrev pub AskedNames : Type 0
AskedNames = Option (List (List ℕ))

-- some of these names have been asked for, from the first on
pub record AsksSome (names : List (List ℕ)) (log log' : AskedNames) : Type 0 where
  pub passed : List (List ℕ)
  pub coming : List (List ℕ)
  pub all : names ≡ passed ++ coming
  pub asked : log' ≡ grown log passed

-- the names up to one of these have been asked for
pub record AsksUpTo (names : List (List ℕ)) (log log' : AskedNames) : Type 0 where
  pub earlier : List (List ℕ)
  pub name : List ℕ
  pub coming : List (List ℕ)
  pub all : names ≡ earlier ++ name ∷ coming
  pub asked : log' ≡ grown log (earlier ++ name ∷ [])
