-- How a line is put together.
use Rattle.std.specs.Prelude.{◌≡◌, ℕ, ◌<◌, ◌++◌, Bool, true, false, List, [], ◌∷◌, length}
use Rattle.std.specs.List.{list_all}
use Rattle.resc_read.specs.Words.{is_blank, quoted_after, gaps}

-- whether a quote is open after a text
abbrev pub quoted_behind : Bool → List ℕ → Bool
quoted_behind quoted [] = quoted
quoted_behind quoted (b ∷ bs) = quoted_behind (quoted_after quoted b) bs

-- a word ends with its line, or before a blank with its quotes closed
abbrev pub Ends : List ℕ → List ℕ → Type 0
Ends word [] = Unit {0}
Ends word (b ∷ rest) = (is_blank b ≡ true) × (quoted_behind false word ≡ false)

-- a word is not empty, and each of its blanks stands in quotes
pub record IsWord (word rest : List ℕ) : Type 0 where
  pub some : 0 < length word
  pub no_gap : gaps false word ≡ []
  pub ends : Ends word rest

-- a line is blanks alone, or blanks, a word, and the rest of the line with the other words
abbrev pub IsLine : List ℕ → List (List ℕ) → Type 0
IsLine line [] = list_all is_blank line ≡ true
IsLine line (word ∷ others) =
    (gap : List ℕ) × (rest : List ℕ) × (line ≡ gap ++ (word ++ rest)) × (list_all is_blank gap ≡ true)
    × IsWord word rest × IsLine rest others
