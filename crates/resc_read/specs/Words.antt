-- The words of a line.
use Rattle.std.specs.Prelude.{ℕ, ◌==◌, Bool, false, not, ◌&&◌, ◌||◌, if◌then◌else◌, List, [], ◌∷◌, length, filter}
use Rattle.std.specs.List.{onto_first}
use Rattle.std.specs.Str.{byte}

-- a blank is a space or a tab
abbrev pub is_blank : ℕ → Bool
is_blank b = b == byte " " || b == byte "\t"

-- the byte of a `"`
abbrev pub quote : ℕ
quote = 34

abbrev pub is_quote : ℕ → Bool
is_quote b = b == quote

-- whether a quote is open after a byte
abbrev pub quoted_after : Bool → ℕ → Bool
quoted_after quoted b = if is_quote b then not quoted else quoted

-- what stands between the blanks outside quotes, of a line before which a quote is open or not
abbrev pub pieces : Bool → List ℕ → List (List ℕ)
pieces quoted [] = [] ∷ []
pieces quoted (b ∷ bs) =
    if not quoted && is_blank b then [] ∷ pieces false bs else onto_first b (pieces (quoted_after quoted b) bs)

-- the blanks outside quotes
abbrev pub gaps : Bool → List ℕ → List ℕ
gaps quoted [] = []
gaps quoted (b ∷ bs) =
    if not quoted && is_blank b then b ∷ gaps false bs else gaps (quoted_after quoted b) bs

abbrev pub is_some_text : List ℕ → Bool
is_some_text text = not (length text == 0)

-- the words of a line: what stands between blanks, and is not empty
abbrev pub words : List ℕ → List (List ℕ)
words line = filter is_some_text (pieces false line)
