-- The sorts of words, and what a word of each sort says.
use Rattle.std.specs.Prelude.{ℕ, ◌==◌, nat_eq, Bool, true, false, not, ◌&&◌, ◌||◌, if◌then◌else◌, List, length, drop}
use Rattle.std.specs.Prelude.{Option, Some, None, codes, option_and_then}
use Rattle.std.specs.List.{list_any, starts_with}
use Rattle.std.specs.Option.{option_or}
use Rattle.std.specs.Str.{str_eq_ignore_ascii_case}
use Rattle.lab_num.specs.Name.{is_name}
use Rattle.lab_num.specs.Time.{cut, with_cut}
use Rattle.resc_read.specs.Words.{quote, is_quote}

abbrev pub has_quote : List ℕ → Bool
has_quote word = list_any is_quote word

-- a plain word: it has no quote, and does not begin with `@`
abbrev pub plain_of : List ℕ → Option (List ℕ)
plain_of word = if starts_with nat_eq word (codes "@") || has_quote word then None else Some word

-- the text of a quoted word, whose first and last signs are its only quotes
abbrev pub quoted_of : List ℕ → Option (List ℕ)
quoted_of word =
    with_cut (cut quote word) None (λ front rest.
    with_cut (cut quote rest) None (λ text end. if length front == 0 && length end == 0 then Some text else None))

-- the text of a word that may stand with or without quotes
abbrev pub text_of : List ℕ → Option (List ℕ)
text_of word = option_or (plain_of word) (quoted_of word)

abbrev pub is_web_path : List ℕ → Bool
is_web_path path = starts_with nat_eq path (codes "http://") || starts_with nat_eq path (codes "https://")

-- the path of a word `@path`, which has no quote and names no place of the web
abbrev pub path_of : List ℕ → Option (List ℕ)
path_of word =
    if not (starts_with nat_eq word (codes "@")) || has_quote word || length word == 1 || is_web_path (drop 1 word)
    then None
    else Some (drop 1 word)

-- the name of a board or of a hub
abbrev pub if_name : List ℕ → Option (List ℕ)
if_name text = if is_name text then Some text else None

abbrev pub name_of : List ℕ → Option (List ℕ)
name_of word = option_and_then if_name (text_of word)

-- `true` or `false`, in any ASCII case
abbrev pub truth_of : List ℕ → Option Bool
truth_of word =
    if str_eq_ignore_ascii_case word (codes "true") then Some true
    else if str_eq_ignore_ascii_case word (codes "false") then Some false
    else None
