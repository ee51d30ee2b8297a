-- Lines with their numbers.
use Rattle.std.specs.Prelude.{ℕ, ◌+◌, ◌^◌, ◌≤◌, List, [], ◌∷◌, take, length}
use Rattle.std.specs.Str.Lines.{lines}
use Rattle.resc_vars.specs.declared.item.Line.{Line}

-- lines with their numbers, from n on
abbrev pub numbered : ℕ → List (List ℕ) → List Line
numbered n [] = []
numbered n (text ∷ texts) = record { number = n; text = text } ∷ numbered (n + 1) texts

-- the lines of a text with their numbers, so many of them at most
abbrev pub shown : ℕ → ℕ → List ℕ → List Line
shown most n text = take most (numbered n (lines text))

-- the numbers of the lines of a text are small, as in a file of 16 MiB
abbrev pub numbers_fit : ℕ → List ℕ → Type 0
numbers_fit n text = n + length text ≤ 2 ^ 24 + 1
