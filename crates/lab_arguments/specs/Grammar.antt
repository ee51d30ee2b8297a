-- How the words after a command give names their texts.
use Rattle.std.specs.Prelude.{ℕ, Bool, ◌==◌, List, [], ◌∷◌, ◌++◌, Option, Some, None}
use Rattle.std.specs.Prelude.{codes, find, if◌then◌else◌, option_and_then, option_map}
use Rattle.std.specs.List.{list_all, list_any, before_first, after_first}
use Rattle.std.specs.Str.{byte, bytes_eq}

abbrev pub Text : Type 0
Text = List ℕ

-- ---- one word

-- what a word is, as long as options may come
pub data Sort : Type 0 where
  -- `--`
  end_of_options : Sort
  -- `--NAME`, or `--NAME=TEXT`
  option : Text → Option Text → Sort
  -- `-` and something else after it
  stray : Sort
  -- a word without a `-` at its head, or `-` itself
  plain : Sort

abbrev pub is_dash : ℕ → Bool
is_dash b = b == byte "-"

abbrev pub is_equals : ℕ → Bool
is_equals b = b == byte "="

-- what stands after the first `=`, if there is one
abbrev pub attached : Text → Option Text
attached text = if list_any is_equals text then Some (after_first is_equals text) else None

abbrev pub after_two_dashes : Text → Sort
after_two_dashes [] = end_of_options
after_two_dashes (b ∷ rest) = option (before_first is_equals (b ∷ rest)) (attached (b ∷ rest))

abbrev pub after_dash : Text → Sort
after_dash [] = plain
after_dash (b ∷ rest) = if is_dash b then after_two_dashes rest else stray

abbrev pub sort_of : Text → Sort
sort_of [] = plain
sort_of (b ∷ rest) = if is_dash b then after_dash rest else plain

-- ---- the words one after another

-- what a command takes: plain words, by their names in order, and options of these names
pub record Form : Type 0 where
  pub plain_names : List Text
  pub option_names : List Text

-- what may come next
pub data Expected : Type 0 where
  -- a plain word, an option or the end of the options
  anything : Expected
  -- the text of the option that was named last
  text_of_option : Text → Expected
  -- a plain word, whatever it begins with
  plain_only : Expected

-- how far the words are read: the names of plain words that are still to come, and the names that have their text
pub record Reading : Type 0 where
  pub expected : Expected
  pub left : List Text
  pub given : List (Text × Text)

abbrev pub is_among : Text → List Text → Bool
is_among name names = list_any (λ n. bytes_eq n name) names

abbrev pub is_given : Text → List (Text × Text) → Bool
is_given name given = list_any (λ p. bytes_eq p.0 name) given

-- a name is given its text, and no name twice
abbrev pub give : Text → Text → Reading → Option Reading
give name text reading =
    if is_given name reading.given then None else Some (record reading { given = reading.given ++ (name, text) ∷ [] })

-- a plain word is the text of the next name of one
abbrev pub give_plain : List Text → Text → Reading → Option Reading
give_plain [] text reading = None
give_plain (name ∷ left) text reading = give name text (record reading { left = left })

-- an option has its text after `=`, or in the next word
abbrev pub give_option : Text → Option Text → Reading → Option Reading
give_option name (Some text) reading = give name text reading
give_option name None reading = Some (record reading { expected = text_of_option name })

abbrev pub take_any : Form → Sort → Text → Reading → Option Reading
take_any form end_of_options word reading = Some (record reading { expected = plain_only })
take_any form (option name text) word reading =
    if is_among name form.option_names then give_option name text reading else None
take_any form stray word reading = None
take_any form plain word reading = give_plain reading.left word reading

-- the text of an option, as a word of its own, does not begin with `-`, or is `-` itself
abbrev pub take_text : Text → Sort → Text → Reading → Option Reading
take_text name plain word reading = give name word (record reading { expected = anything })
take_text name sort word reading = None

abbrev pub take_at : Form → Expected → Text → Reading → Option Reading
take_at form anything word reading = take_any form (sort_of word) word reading
take_at form (text_of_option name) word reading = take_text name (sort_of word) word reading
take_at form plain_only word reading = give_plain reading.left word reading

-- one word more
abbrev pub take_word : Form → Reading → Text → Option Reading
take_word form reading word = take_at form reading.expected word reading

-- at the end no option may want its text
abbrev pub texts_at : Expected → List (Text × Text) → Option (List (Text × Text))
texts_at (text_of_option name) given = None
texts_at place given = Some given

unfoldable pub texts_from : Form → Reading → List Text → Option (List (Text × Text))
texts_from form reading [] = texts_at reading.expected reading.given
texts_from form reading (word ∷ words) =
    option_and_then (λ next. texts_from form next words) (take_word form reading word)

abbrev pub start_of : Form → Reading
start_of form = record { expected = anything; left = form.plain_names; given = [] }

-- no plain word is missing
abbrev pub is_complete : Form → List (Text × Text) → Bool
is_complete form given = list_all (λ name. is_given name given) form.plain_names

-- the names with the texts that the words give them, if the words are of the form
abbrev pub texts_of : Form → List Text → Option (List (Text × Text))
texts_of form words =
    option_and_then (λ given. if is_complete form given then Some given else None)
    (texts_from form (start_of form) words)

-- the text of a name, if it is given one
abbrev pub text_of : Text → List (Text × Text) → Option Text
text_of name given = option_map (λ p. p.1) (find (λ p. bytes_eq p.0 name) given)

-- ---- the commands

-- `run SCRIPT [--workers N] [--until TIME]`
abbrev pub run_form : Form
run_form = record {
  plain_names = codes "SCRIPT" ∷ [];
  option_names = codes "workers" ∷ codes "until" ∷ [];
}

-- `check SCRIPT`
abbrev pub check_form : Form
check_form = record { plain_names = codes "SCRIPT" ∷ []; option_names = [] }

-- `gen SEED BOARDS [--workers N]`
abbrev pub gen_form : Form
gen_form = record {
  plain_names = codes "SEED" ∷ codes "BOARDS" ∷ [];
  option_names = codes "workers" ∷ [];
}
