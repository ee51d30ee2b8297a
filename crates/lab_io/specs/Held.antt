-- What files hold, and what one read of them has answered and given.
use Rattle.std.specs.Prelude.{◌≡◌, ℕ, ◌<◌, ◌≤◌, List, [], ◌∷◌, length, Option, Some, IfSome, IsSomeAnd}
use Rattle.std.specs.Ordering.{nat_cmp}
use Rattle.std.specs.Cmp.Lexicographic.{slice_cmp}
use Rattle.std.specs.FinMap.{FinMap, get}
use Rattle.lab_io.specs.Known.{counted}
use Rattle.lab_io.specs.declared.files.ReadAnswer.{ReadAnswer}
use Rattle.lab_io.specs.declared.files.ReadAnswer.TheVariants.{Done, Failed, TooLarge, Memory}

-- what names hold: a finite map from the bytes of a name to the bytes of its file
abbrev pub Held : Type 0
Held = FinMap (slice_cmp nat_cmp) (List ℕ)

-- what a read of at most `limit` bytes has answered and given, and why, where what is held is told
abbrev pub IsReadAs : Option Held → List ℕ → ℕ → ReadAnswer → List ℕ → Type 0
IsReadAs held name limit Done into = (length into ≤ limit) × IfSome held (λ files. get files name ≡ Some into)
IsReadAs held name limit Failed into = into ≡ []
IsReadAs held name limit TooLarge into =
    (into ≡ []) × IfSome held (λ files. IsSomeAnd (get files name) (λ bytes. limit < length bytes))
IsReadAs held name limit Memory into = into ≡ []

-- the name that a read has asked for; one that found no memory has asked for none
abbrev pub asks : ReadAnswer → List ℕ → List (List ℕ)
asks Done name = name ∷ []
asks Failed name = name ∷ []
asks TooLarge name = name ∷ []
asks Memory name = []

-- an exact count of faults after a read: a read that has failed is counted, and no other
abbrev pub read_faults : ReadAnswer → ℕ → ℕ
read_faults Done faults = faults
read_faults Failed faults = counted faults
read_faults TooLarge faults = faults
read_faults Memory faults = faults
