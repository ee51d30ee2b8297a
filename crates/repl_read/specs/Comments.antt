-- Comments: `//` to the line's end, and `/* */`, outside strings.
use Rattle.std.specs.Prelude.{ℕ, ◌==◌, ◌&&◌, ◌||◌, Bool, false, if◌then◌else◌, List, [], ◌∷◌, ◌++◌, slice_index, Option}
use Rattle.std.specs.Prelude.{None, Some}
use Rattle.std.specs.Option.{option_map_or}
use Rattle.std.specs.Str.{byte}
use Rattle.repl_read.specs.declared.comments.Inside.{Inside}
use Rattle.repl_read.specs.declared.comments.Inside.TheVariants.{Nothing, Words, Line, Block}

-- the sign `"`
abbrev pub quote : ℕ
quote = 34

-- two signs that begin or end a comment, and what stands after them
abbrev pub turn_at : Inside → ℕ → ℕ → Option Inside
turn_at Nothing b next =
    if b == byte "/" && next == byte "/" then Some Line
    else if b == byte "/" && next == byte "*" then Some Block
    else None
turn_at Words b next = None
turn_at Line b next = None
turn_at Block b next = if b == byte "*" && next == byte "/" then Some Nothing else None

-- what stands after any other sign: a string and a line comment end with their line
abbrev pub after_sign : Inside → ℕ → Inside
after_sign Nothing b = if b == quote then Words else Nothing
after_sign Words b = if b == quote || b == byte "\n" then Nothing else Words
after_sign Line b = if b == byte "\n" then Nothing else Line
after_sign Block b = Block

-- a line's end: a line feed, or a carriage return directly before one
abbrev pub ends_line : ℕ → ℕ → Bool
ends_line b next = b == byte "\n" || (b == byte "\r" && next == byte "\n")

-- a sign of a comment is a blank, but a line's end stays
abbrev pub seen : Inside → ℕ → ℕ → ℕ
seen Nothing b next = b
seen Words b next = b
seen Line b next = if ends_line b next then b else byte " "
seen Block b next = if ends_line b next then b else byte " "

-- whether `*/` stands in a text
abbrev pub closes : List ℕ → Bool
closes [] = false
closes (b ∷ bs) = (b == byte "*" && slice_index bs 0 == byte "/") || closes bs

-- two signs that begin or end a comment are blanks, but a comment that is not closed keeps a sign that has no form
abbrev pub marks : Inside → List ℕ → List ℕ
marks Block rest = if closes rest then byte " " ∷ byte " " ∷ [] else byte " " ∷ byte "*" ∷ []
marks other rest = byte " " ∷ byte " " ∷ []

-- a text with blanks for its comments
abbrev pub blanked : Inside → List ℕ → List ℕ
blanked inside [] = []
blanked inside (b ∷ []) = seen inside b 0 ∷ []
blanked inside (b ∷ next ∷ bs) =
    option_map_or (λ then_. marks then_ bs ++ blanked then_ bs) (turn_at inside b next)
    (seen inside b next ∷ blanked (after_sign inside b) (next ∷ bs))
