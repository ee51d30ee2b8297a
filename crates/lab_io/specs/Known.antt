-- What is told of something that grows: a list that may be untold, and a count of faults.
use Rattle.std.specs.Prelude.{ℕ, ◌+◌, ◌-◌, ◌^◌, ◌≤◌, min, List, ◌++◌, Option}
use Rattle.std.specs.Option.{option_map}

-- what is told of a list, after these have come to its end; of an untold one nothing is told
abbrev pub grown : {A : Type 0} → Option (List A) → List A → Option (List A)
grown told more = option_map (λ xs. xs ++ more) told

-- a counter of 64 bits after one more, which stays at its last value
abbrev pub counted : ℕ → ℕ
counted count = min (count + 1) (2 ^ 64 - 1)

-- a count of faults is greater than before, or is at its last value
abbrev pub Rose : ℕ → ℕ → Type 0
Rose before now = counted before ≤ now
