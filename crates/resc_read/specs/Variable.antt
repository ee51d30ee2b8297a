-- The names of variables and macros, and the words that set a variable.
use Rattle.std.specs.Prelude.{ℕ, ◌==◌, nat_eq, Bool, false, ◌&&◌, ◌||◌, if◌then◌else◌, List, length, drop, slice_index}
use Rattle.std.specs.Prelude.{Option, Some, None, is_some, codes, option_and_then}
use Rattle.std.specs.Char.{is_ascii_alphabetic, is_ascii_alphanumeric}
use Rattle.std.specs.List.{list_all, starts_with}
use Rattle.std.specs.Str.{byte}
use Rattle.lab_num.specs.Time.{cut, with_cut}

-- an ASCII letter or digit, or `_`
abbrev pub is_variable_byte : ℕ → Bool
is_variable_byte b = is_ascii_alphanumeric b || b == byte "_"

-- an ASCII letter or `_`
abbrev pub begins_variable : ℕ → Bool
begins_variable b = is_ascii_alphabetic b || b == byte "_"

-- a letter or `_`, and letters, digits or `_` after it
abbrev pub is_variable_name : List ℕ → Bool
is_variable_name text = begins_variable (slice_index text 0) && list_all is_variable_byte text

-- the name in a word `$name`
abbrev pub variable_of : List ℕ → Option (List ℕ)
variable_of word =
    if starts_with nat_eq word (codes "$") && is_variable_name (drop 1 word) then Some (drop 1 word) else None

abbrev pub is_variable : List ℕ → Bool
is_variable word = is_some (variable_of word)

-- what stands to the left of the first `=` of a text, or of its `?=`
abbrev pub left_of : List ℕ → Option (List ℕ)
left_of text =
    with_cut (cut (byte "=") text) None (λ front value.
    with_cut (cut (byte "?") front) (Some front) (λ left between. if length between == 0 then Some left else None))

-- the word begins with `$name=` or `$name?=`
abbrev pub sets_variable : List ℕ → Bool
sets_variable word = is_some (option_and_then variable_of (left_of word))

-- the word begins with `=` or `?=`
abbrev pub begins_with_sign : List ℕ → Bool
begins_with_sign word = is_empty_text (left_of word)
  where
    is_empty_text : Option (List ℕ) → Bool
    is_empty_text None = false
    is_empty_text (Some text) = length text == 0

-- a line with these first words is an assignment: `$name`, then `=` or `?=`, with or without blanks between
abbrev pub is_assignment : List ℕ → List ℕ → Bool
is_assignment first second = sets_variable first || (is_variable first && begins_with_sign second)
