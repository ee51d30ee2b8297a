-- The items of an entry: attributes `key: value`, and wires `SRC -> dest@DST`, which Renode's platform description
-- format calls interrupt connections.
use Rattle.std.specs.Prelude.{ℕ, nat_le, filter, Bool, true, false, List, [], ◌∷◌, Option, Some, None, if◌then◌else◌}
use Rattle.std.specs.Prelude.{codes, Result, Ok, Err}
use Rattle.std.specs.Str.{bytes_eq}
use Rattle.repl_read.specs.declared.cuts.Mark.TheVariants as mark
use Rattle.repl_read.specs.declared.entry.Ends.{Ends}
use Rattle.repl_read.specs.declared.entry.Ends.TheVariants.{Absent, Irq, Spans}
use Rattle.repl_read.specs.declared.entry.ItemWhat.{ItemWhat}
use Rattle.repl_read.specs.declared.entry.ItemWhat.TheVariants.{Attribute, Wire}
use Rattle.repl_read.specs.declared.entry.Span.{Span}
use Rattle.repl_read.specs.declared.entry.Value.{Value}
use Rattle.repl_read.specs.declared.entry.Value.TheVariants.{Number, Words, Truth, Name}
use Rattle.repl_read.specs.declared.fault.ReadCause.{ReadCause}
use Rattle.repl_read.specs.declared.fault.ReadCause.TheVariants.{Form}
use Rattle.repl_read.specs.declared.tokens.Token.{Token}
use Rattle.repl_read.specs.declared.tokens.Token.TheVariants.{Word, Quoted, Colon, At, Minus, StartList}
use Rattle.repl_read.specs.Cuts.{cut, with_cut, parts}
use Rattle.lab_num.specs.Numeral.{number_of}
use Rattle.lab_num.specs.Name.{is_identifier}
use Rattle.repl_read.specs.Words.{is_dotted_name}
use Rattle.repl_read.specs.Forms.{◌>>=◌, require, number, all_of}

-- a word that is no number: `true`, `false`, or a name with dots
abbrev pub other_value : List ℕ → Result Value ReadCause
other_value word =
    if bytes_eq word (codes "true") then Ok (Truth true)
    else if bytes_eq word (codes "false") then Ok (Truth false)
    else if is_dotted_name word then Ok (Name word)
    else Err Form

abbrev pub numbered : List ℕ → Option ℕ → Result Value ReadCause
numbered word (Some n) = Ok (Number n)
numbered word None = other_value word

abbrev pub word_value : List ℕ → Result Value ReadCause
word_value word = numbered word (number_of word)

-- `key: value`
abbrev pub attribute_of : List Token → Result ItemWhat ReadCause
attribute_of (Word key ∷ Colon ∷ Word word ∷ []) = do
  good ← require (is_identifier key)
  value ← word_value word
  Ok (Attribute key value)
attribute_of (Word key ∷ Colon ∷ Quoted words ∷ []) = do
  good ← require (is_identifier key)
  Ok (Attribute key (Words words))
attribute_of other = Err Form

-- a number, or a range `a-b` with a <= b
abbrev pub span_of : List Token → Result Span ReadCause
span_of (Word word ∷ []) = do
  n ← number (number_of word)
  Ok (record { first = n; last = n })
span_of (Word first ∷ Minus ∷ Word last ∷ []) = do
  first ← number (number_of first)
  last ← number (number_of last)
  rising ← require (nat_le first last)
  Ok (record { first = first; last = last })
span_of other = Err Form

abbrev pub spans_of : List (List Token) → Result (List Span) ReadCause
spans_of parts = all_of span_of parts

-- a list ends at its first `]`, after which nothing stands
abbrev pub ended_list : List Token → List Token → Result (List Span) ReadCause
ended_list inner [] = spans_of (parts mark.Comma inner)
ended_list inner (t ∷ ts) = Err Form

-- what stands after `[`: numbers and ranges, parted by commas
abbrev pub bracketed : List Token → Result (List Span) ReadCause
bracketed tokens = with_cut (cut mark.EndList tokens) (Err Form) ended_list

abbrev pub one_span : List ℕ → Result (List Span) ReadCause
one_span word = do
  n ← number (number_of word)
  Ok (record { first = n; last = n } ∷ [])

-- DST: a number or a bracket list
abbrev pub pins_of : List Token → Result (List Span) ReadCause
pins_of (Word word ∷ []) = one_span word
pins_of (StartList ∷ rest) = bracketed rest
pins_of other = Err Form

abbrev pub numbered_ends : List Token → Result Ends ReadCause
numbered_ends tokens = do
  spans ← pins_of tokens
  Ok (Spans spans)

-- SRC: absent, `IRQ`, or as DST
abbrev pub source_of : List Token → Result Ends ReadCause
source_of [] = Ok Absent
source_of (Word word ∷ []) =
    if bytes_eq word (codes "IRQ") then Ok Irq else numbered_ends (Word word ∷ [])
source_of other = numbered_ends other

-- what stands before and after `->`
abbrev pub wire_of : List Token → List Token → Result ItemWhat ReadCause
wire_of front (Word to ∷ At ∷ rest) = do
  from ← source_of front
  good ← require (is_identifier to)
  pins ← numbered_ends rest
  Ok (Wire from to pins)
wire_of front other = Err Form

-- the item that a line's tokens make
abbrev pub item_of : List Token → Result ItemWhat ReadCause
item_of tokens = with_cut (cut mark.Arrow tokens) (attribute_of tokens) wire_of

abbrev pub is_filled : List Token → Bool
is_filled [] = false
is_filled (t ∷ ts) = true

-- the items that parts make, of which empty ones make none
abbrev pub items_of : List (List Token) → Result (List ItemWhat) ReadCause
items_of parts = all_of item_of (filter is_filled parts)
