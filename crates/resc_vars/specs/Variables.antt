-- Variables, and lines with their variables replaced.
use Rattle.std.specs.Prelude.{ℕ, nat_eq, Bool, false, ◌&&◌, if◌then◌else◌, List, [], ◌∷◌, ◌++◌, Option, Some, None}
use Rattle.std.specs.Prelude.{is_some}
use Rattle.std.specs.Prelude.{codes, option_and_then}
use Rattle.std.specs.Option.{option_map}
use Rattle.std.specs.Cmp.Lexicographic.{pointwise}
use Rattle.std.specs.Map.{lookup}
use Rattle.std.specs.Str.{byte, bytes_eq}
use Rattle.indexmap.specs.IndexMap.{insert_entry}
use Rattle.lab_num.specs.Time.{cut, with_cut}
use Rattle.resc_read.specs.Words.{pieces, gaps, words}
use Rattle.resc_read.specs.Table.{word_at}
use Rattle.resc_read.specs.Variable.{is_variable, variable_of}

-- the variables by name, each with its value
abbrev pub Variables : Type 0
Variables = List (List ℕ × List ℕ)

abbrev pub value_of : Variables → List ℕ → Option (List ℕ)
value_of variables name = lookup (pointwise nat_eq name) variables

-- what stands for a word: the value of the variable that it names, if that is set, and for any other word itself
abbrev pub stands_for : Variables → List ℕ → Option (List ℕ)
stands_for variables word = by_name (variable_of word)
  where
    by_name : Option (List ℕ) → Option (List ℕ)
    by_name None = Some word
    by_name (Some name) = value_of variables name

-- what stands for each, if something stands for each
abbrev pub each : (List ℕ → Option (List ℕ)) → List (List ℕ) → Option (List (List ℕ))
each f [] = Some []
each f (x ∷ xs) = option_and_then (λ y. option_map (λ ys. y ∷ ys) (each f xs)) (f x)

-- pieces of a line, with the blanks between them
abbrev pub weave : List (List ℕ) → List ℕ → List ℕ
weave [] blanks = []
weave (piece ∷ pieces) [] = piece
weave (piece ∷ pieces) (blank ∷ blanks) = piece ++ blank ∷ weave pieces blanks

-- a line with its variables replaced, if each of them is set
unfoldable pub replaced : Variables → List ℕ → Option (List ℕ)
replaced variables line =
    option_map (λ all. weave all (gaps false line)) (each (stands_for variables) (pieces false line))

-- a line that begins with `runMacro $name`, which names a macro and no variable
abbrev pub names_macro : List (List ℕ) → Bool
names_macro words = bytes_eq (word_at words 0) (codes "runMacro") && is_variable (word_at words 1)

-- a line with its variables replaced after its first `$`, which stays
abbrev pub after_name : Variables → List ℕ → Option (List ℕ)
after_name variables line =
    with_cut (cut (byte "$") line) (Some line)
    (λ front rest. option_map (λ more. front ++ byte "$" ∷ more) (replaced variables rest))

-- the text of a command, with its variables replaced, but for the name of a macro
unfoldable pub command_text : Variables → List ℕ → Option (List ℕ)
command_text variables line = if names_macro (words line) then after_name variables line else replaced variables line

-- the variables after an assignment of a value; `?=` leaves a variable that is set as it was
abbrev pub with_value : Variables → List ℕ → Bool → List ℕ → Variables
with_value variables name only_if_unset value =
    if only_if_unset && is_some (value_of variables name)
    then variables
    else insert_entry (pointwise nat_eq) variables name value
