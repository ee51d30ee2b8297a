-- Command lines by their parts.
use Rattle.std.specs.Prelude.{◌≡◌, Bool, ◌&&◌, not, true, List, [], ◌∷◌, ◌++◌, map, Option, Some, None, IsSome}
use Rattle.std.specs.Prelude.{if◌then◌else◌, option_and_then, unwrap_or}
use Rattle.std.specs.List.{list_all}
use Rattle.std.specs.Str.{byte}
use Rattle.lab_arguments.specs.Grammar.{Form, Reading, Text, give, give_plain, is_among, is_complete, is_dash, start_of}
use Rattle.lab_arguments.specs.Grammar.{texts_of}

pub data Part : Type 0 where
  -- a plain word
  word : Text → Part
  -- an option as one word, `--NAME=TEXT`
  joined : Text → Text → Part
  -- an option as two words, `--NAME` and `TEXT`
  apart : Text → Text → Part

-- a line is its parts, and perhaps `--` and plain words after it
pub record Line : Type 0 where
  pub parts : List Part
  pub behind : Option (List Text)

-- ---- the words of a line

abbrev pub dashed : Text → Text
dashed name = byte "-" ∷ byte "-" ∷ name

abbrev pub written : List Part → List Text
written [] = []
written (word text ∷ parts) = text ∷ written parts
written (joined name text ∷ parts) = (dashed name ++ byte "=" ∷ text) ∷ written parts
written (apart name text ∷ parts) = dashed name ∷ text ∷ written parts

abbrev pub written_behind : Option (List Text) → List Text
written_behind None = []
written_behind (Some words) = dashed [] ∷ words

abbrev pub words_of : Line → List Text
words_of line = written line.parts ++ written_behind line.behind

-- ---- the lines of a form

-- the text is `-`, or does not begin with it
abbrev pub may_be_plain : Text → Bool
may_be_plain [] = true
may_be_plain (b ∷ []) = true
may_be_plain (b ∷ c ∷ rest) = not (is_dash b)

abbrev pub may_stand : Form → Part → Bool
may_stand form (word text) = may_be_plain text
may_stand form (joined name text) = is_among name form.option_names
may_stand form (apart name text) = is_among name form.option_names && may_be_plain text

abbrev pub IsLineOf : Form → Line → Type 0
IsLineOf form line = list_all (may_stand form) line.parts ≡ true

-- ---- what a line gives

-- the parts of a line, and the words after them as plain ones
abbrev pub parts_of : Line → List Part
parts_of line = line.parts ++ map word (unwrap_or line.behind [])

-- an option has its text, whichever way it is written
abbrev pub take_part : Part → Reading → Option Reading
take_part (word text) reading = give_plain reading.left text reading
take_part (joined name text) reading = give name text reading
take_part (apart name text) reading = give name text reading

abbrev pub take_parts : Reading → List Part → Option Reading
take_parts reading [] = Some reading
take_parts reading (part ∷ parts) = option_and_then (λ next. take_parts next parts) (take_part part reading)

-- the names with the texts that the parts give them, one after another, if no plain word is missing
abbrev pub texts_by_parts : Form → Line → Option (List (Text × Text))
texts_by_parts form line =
    option_and_then (λ reading. if is_complete form reading.given then Some reading.given else None)
    (take_parts (start_of form) (parts_of line))

-- ---- the law

-- words are those of a line of the form
abbrev pub AreOf : Form → List Text → Type 0
AreOf form words = (line : Line) × IsLineOf form line × (words ≡ words_of line)

-- Words are read as the parts of their line say, and words that are those of no line are refused.
pub record ReadsLines (form : Form) : Type 0 where
  pub lines : (line : Line) → IsLineOf form line → texts_of form (words_of line) ≡ texts_by_parts form line
  pub no_others : (words : List Text) → IsSome (texts_of form words) → AreOf form words
