-- The forms of names.
use Rattle.std.specs.Prelude.{ℕ, Bool, ◌==◌, ◌&&◌, ◌||◌, not, List, length, slice_index}
use Rattle.std.specs.Char.{is_ascii_alphabetic, is_ascii_alphanumeric}
use Rattle.std.specs.List.{list_all}
use Rattle.std.specs.Str.{byte}

-- an ASCII letter or digit, `_` or `-`
abbrev pub is_name_byte : ℕ → Bool
is_name_byte b = is_ascii_alphanumeric b || b == byte "_" || b == byte "-"

-- a name: at least one byte, each of them a letter, a digit, `_` or `-`
abbrev pub is_name : List ℕ → Bool
is_name text = not (length text == 0) && list_all is_name_byte text

-- an ASCII letter or digit, or `_`
abbrev pub is_identifier_byte : ℕ → Bool
is_identifier_byte b = is_ascii_alphanumeric b || b == byte "_"

-- an identifier: a letter, then letters, digits or `_`
abbrev pub is_identifier : List ℕ → Bool
is_identifier text = is_ascii_alphabetic (slice_index text 0) && list_all is_identifier_byte text
