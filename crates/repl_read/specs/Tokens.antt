-- A line as its words, strings and signs.
use Rattle.std.specs.Prelude.{ℕ, ◌==◌, ◌||◌, Bool, true, false, if◌then◌else◌, List, [], ◌∷◌, slice_index}
use Rattle.std.specs.Char.{is_ascii_alphanumeric}
use Rattle.std.specs.Str.{byte}
use Rattle.repl_read.specs.Comments.{quote}
use Rattle.repl_read.specs.declared.tokens.Token.{Token}
use Rattle.repl_read.specs.declared.tokens.Token.TheVariants.{Word, Quoted, Colon, Semicolon, Comma, At, Plus, Minus}
use Rattle.repl_read.specs.declared.tokens.Token.TheVariants.{Arrow, Less, More, StartList, EndList, OpenBrace}
use Rattle.repl_read.specs.declared.tokens.Token.TheVariants.{CloseBrace, Bar, Other}
use Rattle.repl_read.specs.declared.tokens.TokenLine.{TokenLine}

-- a space or a tab
abbrev pub is_blank : ℕ → Bool
is_blank b = b == byte " " || b == byte "\t"

-- a word is a run of letters, digits, `_` and dots
abbrev pub is_word_byte : ℕ → Bool
is_word_byte b = is_ascii_alphanumeric b || b == byte "_" || b == byte "."

abbrev pub sign_of : ℕ → Token
sign_of b =
    if b == byte ":" then Colon
    else if b == byte ";" then Semicolon
    else if b == byte "," then Comma
    else if b == byte "@" then At
    else if b == byte "+" then Plus
    else if b == byte "<" then Less
    else if b == byte ">" then More
    else if b == byte "[" then StartList
    else if b == byte "]" then EndList
    else if b == byte "{" then OpenBrace
    else if b == byte "}" then CloseBrace
    else if b == byte "|" then Bar
    else Other

-- a byte of a word, in front of the rest of the word or not
abbrev pub glue : ℕ → Bool → List Token → List Token
glue b true (Word word ∷ ts) = Word (b ∷ word) ∷ ts
glue b joined ts = Word (b ∷ []) ∷ ts

-- `-`, directly in front of `>` or not
abbrev pub dash : Bool → List Token → List Token
dash true (More ∷ ts) = Arrow ∷ ts
dash joined ts = Minus ∷ ts

-- a byte of a string, in front of the rest of the string
abbrev pub into_string : ℕ → List Token → List Token
into_string b (Quoted text ∷ ts) = Quoted (b ∷ text) ∷ ts
into_string b ts = ts

-- the words, strings and signs of a line, from within a string or not; a string that is not closed is a sign that has
-- no form
abbrev pub tokens_of : Bool → List ℕ → List Token
tokens_of true [] = Other ∷ []
tokens_of false [] = []
tokens_of true (b ∷ bs) = if b == quote then Quoted [] ∷ tokens_of false bs else into_string b (tokens_of true bs)
tokens_of false (b ∷ bs) =
    if is_blank b then tokens_of false bs
    else if b == quote then tokens_of true bs
    else if is_word_byte b then glue b (is_word_byte (slice_index bs 0)) (tokens_of false bs)
    else if b == byte "-" then dash (slice_index bs 0 == byte ">") (tokens_of false bs)
    else sign_of b ∷ tokens_of false bs

-- a line is indented where it begins with a blank
abbrev pub token_line : List ℕ → TokenLine
token_line line = record { indented = is_blank (slice_index line 0); tokens = tokens_of false line }
