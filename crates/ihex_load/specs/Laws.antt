-- Where the lines of two files agree.
use Rattle.std.specs.Prelude.{◌≡◌, ℕ, List, ◌∷◌, ◌++◌, Ok}
use Rattle.std.specs.Str.Lines.{lines}
use Rattle.ihex_load.specs.declared.record.Record.TheVariants.{EndOfFile}
use Rattle.ihex_load.specs.Record.{line_of}

-- two files have the same lines up to one that ends the file
abbrev pub AgreeToTheEnd : List ℕ → List ℕ → Type 0
AgreeToTheEnd file other =
    (before : List (List ℕ)) × (end : List ℕ) × (after : List (List ℕ)) × (others : List (List ℕ))
    × (line_of end ≡ Ok EndOfFile) × (lines file ≡ before ++ (end ∷ after)) × (lines other ≡ before ++ (end ∷ others))
