-- The forms of a script's lines: lines that are passed over, `"""`, `macro name`, assignments, and commands.
use Rattle.std.specs.Prelude.{ℕ, ◌==◌, nat_eq, Bool, true, false, not, ◌&&◌, ◌||◌, if◌then◌else◌, List, [], ◌∷◌, length}
use Rattle.std.specs.Prelude.{drop, Option, Some, None, is_some, codes, option_and_then}
use Rattle.std.specs.List.{find, list_all, starts_with}
use Rattle.std.specs.Str.{byte, bytes_eq}
use Rattle.lab_num.specs.Time.{cut, with_cut}
use Rattle.resc_read.specs.Words.{is_blank, quote, words}
use Rattle.resc_read.specs.Sorts.{text_of, path_of}
use Rattle.resc_read.specs.Table.{word_at}
use Rattle.resc_read.specs.Variable.{is_variable_name, variable_of}
use Rattle.resc_vars.specs.declared.form.Form.{Form}
use Rattle.resc_vars.specs.declared.form.Form.TheVariants.{Command, Malformed, Assign, Macro}

abbrev pub is_ink : ℕ → Bool
is_ink b = not (is_blank b)

-- a line that has no sign but blanks, or whose first sign is `:` or `#`, is passed over
abbrev pub is_passed : List ℕ → Bool
is_passed text = begins_comment (find is_ink text)
  where
    begins_comment : Option ℕ → Bool
    begins_comment None = true
    begins_comment (Some b) = b == byte ":" || b == byte "#"

-- what follows the first quote of `"""` at the end of a line: two quotes more, and blanks
abbrev pub ends_fence : List ℕ → Bool
ends_fence tail = starts_with nat_eq tail (quote ∷ quote ∷ []) && list_all is_blank (drop 2 tail)

-- what stands before the `"""` at the end of a line that has no other quote
abbrev pub before_fence : List ℕ → Option (List ℕ)
before_fence text = with_cut (cut quote text) None (λ front tail. if ends_fence tail then Some front else None)

-- a line with `"""` alone
abbrev pub is_fence : List ℕ → Bool
is_fence text = is_blank_text (before_fence text)
  where
    is_blank_text : Option (List ℕ) → Bool
    is_blank_text None = false
    is_blank_text (Some front) = list_all is_blank front

-- the name in the words `macro name`
abbrev pub macro_name : List (List ℕ) → Option (List ℕ)
macro_name (first ∷ name ∷ []) = if bytes_eq first (codes "macro") && is_variable_name name then Some name else None
macro_name others = None

-- a `macro` line with these words, with `"""` at its end or without
abbrev pub named : List (List ℕ) → Bool → Form
named words opened = by_name (macro_name words)
  where
    by_name : Option (List ℕ) → Form
    by_name None = Malformed
    by_name (Some name) = Macro name opened

-- a line whose first word is `macro`
abbrev pub macro_form : List ℕ → Form
macro_form text = by_fence (before_fence text)
  where
    by_fence : Option (List ℕ) → Form
    by_fence None = named (words text) false
    by_fence (Some front) = named (words front) true

-- the one word of a text
abbrev pub only_word : List (List ℕ) → Option (List ℕ)
only_word (word ∷ []) = Some word
only_word others = None

-- what stands before the first `=` of a line, or before its `?=`; whether it is `?=`; and what follows it
abbrev pub sides : List ℕ → Option (List ℕ × Bool × List ℕ)
sides text =
    with_cut (cut (byte "=") text) None (λ front right.
    with_cut (cut (byte "?") front) (Some (front, false, right)) (λ left between.
    if length between == 0 then Some (left, true, right) else None))

-- the name in a text of one word, `$name`
abbrev pub assigned_name : List ℕ → Option (List ℕ)
assigned_name left = option_and_then variable_of (only_word (words left))

-- a value is a plain word, a word in quotes, or `@path`
abbrev pub is_value : List ℕ → Bool
is_value word = is_some (text_of word) || is_some (path_of word)

abbrev pub if_value : List ℕ → Option (List ℕ)
if_value word = if is_value word then Some word else None

-- the value in a text of one word
abbrev pub assigned_value : List ℕ → Option (List ℕ)
assigned_value right = option_and_then if_value (only_word (words right))

-- an assignment: `$name`, `=` or `?=`, and a value
abbrev pub assignment : List ℕ → Bool → Option (List ℕ) → Form
assignment name only_if_unset None = Malformed
assignment name only_if_unset (Some value) =
    Assign (record { name = name; only_if_unset = only_if_unset; value = value })

-- a line that sets a variable, or else a command
abbrev pub assignment_form : List ℕ → Form
assignment_form text = by_sides (sides text)
  where
    by_name : Bool → List ℕ → Option (List ℕ) → Form
    by_name only_if_unset right None = Command
    by_name only_if_unset right (Some name) = assignment name only_if_unset (assigned_value right)

    by_sides : Option (List ℕ × Bool × List ℕ) → Form
    by_sides None = Command
    by_sides (Some parts) = by_name parts.1 parts.2 (assigned_name parts.0)

abbrev pub begins_macro : List ℕ → Bool
begins_macro text = bytes_eq (word_at (words text) 0) (codes "macro")

-- the form of a line that is not passed over
unfoldable pub form_of : List ℕ → Form
form_of text = if begins_macro text then macro_form text else assignment_form text
