-- What each entry of a text meets, form by form.
use Rattle.std.proofs.Common.{◌≡◌, ℕ, ◌&&◌, ◌||◌, Bool, true, false, refl, List, [], ◌∷◌, filter, Option, None, Some}
use Rattle.std.proofs.Common.{Result, Ok, Err, arith}
use Rattle.std.specs.Prelude.{nat_le, if◌then◌else◌, codes}
use Rattle.std.specs.List.{list_all}
use Rattle.std.specs.Str.{bytes_eq}
use Rattle.std.proofs.lemmas.Bool.{le-leb}
use Rattle.repl_read.specs.declared.cuts.Mark.TheVariants as mark
use Rattle.repl_read.specs.declared.entry.Ends.TheVariants.{Irq}
use Rattle.repl_read.specs.declared.entry.Head.{Head}
use Rattle.repl_read.specs.declared.fault.ReadCause.{ReadCause}
use Rattle.repl_read.specs.declared.lines.Listed.{Listed}
use Rattle.repl_read.specs.declared.lines.Said.{Said}
use Rattle.repl_read.specs.declared.lines.Stand.{Stand}
use Rattle.repl_read.specs.declared.lines.Stand.TheVariants.{Apart, Under, Within}
use Rattle.repl_read.specs.declared.tokens.Token.{Token}
use Rattle.repl_read.specs.declared.tokens.Token.TheVariants.{Word, Quoted, Colon, At, Minus, StartList}
use Rattle.repl_read.specs.Cuts.{cut, with_cut, parts}
use Rattle.repl_read.specs.Entries.{is_span, is_source, are_pins, is_item, is_head}
use Rattle.repl_read.specs.Features.{in_item, in_head, in_list}
use Rattle.repl_read.specs.Forms.{◌>>=◌, require, judged, number, all_of}
use Rattle.repl_read.specs.Heads.{using_of, place_of, head_of}
use Rattle.repl_read.specs.Items.{word_value, attribute_of, span_of, ended_list, one_span, pins_of, numbered_ends}
use Rattle.repl_read.specs.Items.{source_of, wire_of, is_filled, item_of, items_of}
use Rattle.repl_read.specs.Lines.{parted_items, closed_list, list_of, within_line, item_line, after_brace, plain_head}
use Rattle.repl_read.specs.Lines.{braced_head, using_or, head_line, some_line, said_of}
use Rattle.lab_num.specs.Numeral.{number_of}
use Rattle.lab_num.specs.Name.{is_identifier}
use Rattle.repl_read.specs.Words.{is_dotted_name}

-- what is read passes a test
abbrev pub Good : {X : Type 0} → (X → Bool) → Result X ReadCause → Type 0
Good p (Ok x) = p x ≡ true
Good p (Err cause) = Unit {0}

good_any : {X : Type 0} (r : Result X ReadCause) → Good (λ x. true) r
good_any (Ok x) = refl
good_any (Err cause) = tt

good_then :
    {A B : Type 0} (p : A → Bool) (q : B → Bool) (r : Result A ReadCause) (f : A → Result B ReadCause) →
    Good p r → ((x : A) → p x ≡ true → Good q (f x)) → Good q (r >>= f)
good_then p q (Ok x) f here rest = rest x here
good_then p q (Err cause) f here rest = tt

good_require :
    {B : Type 0} (q : B → Bool) (b : Bool) (f : Unit {0} → Result B ReadCause) → (b ≡ true → Good q (f tt)) →
    Good q (require b >>= f)
good_require q true f rest = rest refl
good_require q false f rest = tt

good_judged : {B : Type 0} (q : B → Bool) (b : Bool) (r : Result B ReadCause) → Good q r → Good q (judged b r)
good_judged q true r here = tt
good_judged q false r here = here

good_cut :
    {B : Type 0} (q : B → Bool) (o : Option (List Token × List Token)) (alone : Result B ReadCause)
    (both : List Token → List Token → Result B ReadCause) → Good q alone →
    ((x y : List Token) → Good q (both x y)) → Good q (with_cut o alone both)
good_cut q None alone both one two = one
good_cut q (Some x) alone both one two = two x.0 x.1

good_all :
    {X Y : Type 0} (p : Y → Bool) (f : X → Result Y ReadCause) → ((x : X) → Good p (f x)) → (xs : List X) →
    Good (list_all p) (all_of f xs)
good_all p f each [] = refl
good_all p f each (x ∷ xs) =
    good_then p (list_all p) (f x) (λ y. all_of f xs >>= λ ys. Ok (y ∷ ys)) (each x)
    (λ y first.
    good_then (list_all p) (list_all p) (all_of f xs) (λ ys. Ok (y ∷ ys)) (good_all p f each xs)
    (λ ys rest. rw (first, rest) refl))

-- ---- heads and items

head_good : (tokens : List Token) → Good is_head (head_of tokens)
head_good (Word name ∷ Colon ∷ []) = good_require is_head (is_identifier name) _ (λ named. named)
head_good (Word name ∷ Colon ∷ Word kind ∷ rest) =
    good_require is_head (is_identifier name) _
    (λ named.
    good_require is_head (is_dotted_name kind) _
    (λ typed.
    good_then (λ place. true) is_head (place_of rest) _ (good_any (place_of rest))
    (λ place any. rw (named, typed) refl)))
head_good other = tt

attribute_good : (tokens : List Token) → Good is_item (attribute_of tokens)
attribute_good (Word key ∷ Colon ∷ Word word ∷ []) =
    good_require is_item (is_identifier key) _
    (λ named. good_then (λ value. true) is_item (word_value word) _ (good_any (word_value word)) (λ value any. named))
attribute_good (Word key ∷ Colon ∷ Quoted words ∷ []) = good_require is_item (is_identifier key) _ (λ named. named)
attribute_good other = tt

same_number : (n : ℕ) → nat_le n n ≡ true
same_number n = le-leb n n (omega arith)

span_good : (tokens : List Token) → Good is_span (span_of tokens)
span_good (Word word ∷ []) =
    good_then (λ n. true) is_span (number (number_of word)) _ (good_any (number (number_of word)))
    (λ n any. same_number n)
span_good (Word first ∷ Minus ∷ Word last ∷ []) =
    good_then (λ n. true) is_span (number (number_of first)) _ (good_any (number (number_of first)))
    (λ a any.
    good_then (λ n. true) is_span (number (number_of last)) _ (good_any (number (number_of last)))
    (λ b also. good_require is_span (nat_le a b) _ (λ rises. rises)))
span_good other = tt

ended_good : (inner behind : List Token) → Good (list_all is_span) (ended_list inner behind)
ended_good inner [] = good_all is_span span_of span_good (parts mark.Comma inner)
ended_good inner (t ∷ ts) = tt

one_good : (word : List ℕ) → Good (list_all is_span) (one_span word)
one_good word =
    good_then (λ n. true) (list_all is_span) (number (number_of word)) _ (good_any (number (number_of word)))
    (λ n any. rw (same_number n) refl)

pins_good : (tokens : List Token) → Good (list_all is_span) (pins_of tokens)
pins_good (Word word ∷ []) = one_good word
pins_good (StartList ∷ rest) = good_cut (list_all is_span) (cut mark.EndList rest) _ ended_list tt ended_good
pins_good other = tt

numbered_good : (tokens : List Token) → Good are_pins (numbered_ends tokens)
numbered_good tokens = good_then (list_all is_span) are_pins (pins_of tokens) _ (pins_good tokens) (λ spans good. good)

numbered_source : (tokens : List Token) → Good is_source (numbered_ends tokens)
numbered_source tokens =
    good_then (list_all is_span) is_source (pins_of tokens) _ (pins_good tokens) (λ spans good. good)

source_good : (tokens : List Token) → Good is_source (source_of tokens)
source_good [] = refl
source_good (Word word ∷ []) = by_irq (bytes_eq word (codes "IRQ"))
  where
    by_irq : (b : Bool) → Good is_source (if b then Ok Irq else numbered_ends (Word word ∷ []))
    by_irq true = refl
    by_irq false = numbered_source (Word word ∷ [])
source_good other = numbered_source other

wire_good : (front behind : List Token) → Good is_item (wire_of front behind)
wire_good front (Word to ∷ At ∷ rest) =
    good_then is_source is_item (source_of front) _ (source_good front)
    (λ from source.
    good_require is_item (is_identifier to) _
    (λ named.
    good_then are_pins is_item (numbered_ends rest) _ (numbered_good rest)
    (λ pins good. rw (source, named, good) refl)))
wire_good front other = tt

item_good : (tokens : List Token) → Good is_item (item_of tokens)
item_good tokens =
    good_cut is_item (cut mark.Arrow tokens) (attribute_of tokens) wire_of (attribute_good tokens) wire_good

items_good : (parts : List (List Token)) → Good (list_all is_item) (items_of parts)
items_good parts = good_all is_item item_of item_good (filter is_filled parts)

-- ---- lines

abbrev pub is_head_if : Option Head → Bool
is_head_if None = true
is_head_if (Some head) = is_head head

abbrev pub is_said : Said → Bool
is_said said = is_head_if said.head && list_all is_item said.items

abbrev is_list : Listed → Bool
is_list list = list_all is_item list.items

parted_good : (tokens : List Token) (ended : Bool) → Good is_list (parted_items tokens ended)
parted_good tokens ended =
    good_then (list_all is_item) is_list (items_of (parts mark.Semicolon tokens)) _
    (items_good (parts mark.Semicolon tokens)) (λ items good. good)

closed_good : (inner behind : List Token) → Good is_list (closed_list inner behind)
closed_good inner [] = parted_good inner true
closed_good inner (t ∷ ts) = tt

list_good : (tokens : List Token) → Good is_list (list_of tokens)
list_good tokens =
    good_cut is_list (cut mark.CloseBrace tokens) (parted_items tokens false) closed_list (parted_good tokens false)
    closed_good

within_good : (tokens : List Token) → Good is_said (within_line tokens)
within_good tokens =
    good_judged is_said (in_list tokens) _
    (good_then is_list is_said (list_of tokens) _ (list_good tokens) (λ list good. good))

item_line_good : (stand : Stand) (tokens : List Token) → Good is_said (item_line stand tokens)
item_line_good Under tokens =
    good_judged is_said (in_item tokens) _
    (good_then is_item is_said (item_of tokens) _ (item_good tokens) (λ item good. rw good refl))
item_line_good Apart tokens = good_judged is_said (in_item tokens) _ tt
item_line_good Within tokens = good_judged is_said (in_item tokens) _ tt

and_true : (b : Bool) → b ≡ true → (b && true) ≡ true
and_true b here = rw here refl

plain_good : (tokens : List Token) → Good is_said (plain_head tokens)
plain_good tokens =
    good_judged is_said (in_head tokens) _
    (good_then is_head is_said (head_of tokens) _ (head_good tokens) (λ head good. and_true (is_head head) good))

braced_good : (later : Bool) (front rest : List Token) → Good is_said (braced_head later front rest)
braced_good later front rest =
    good_judged is_said (in_head front || in_list rest) _
    (good_then is_head is_said (head_of front) _ (head_good front)
    (λ head good.
    good_then is_list is_said (list_of rest) _ (list_good rest)
    (λ list items.
    good_then (λ stand. true) is_said (after_brace list.ended later) _ (good_any (after_brace list.ended later))
    (λ stand any. rw (good, items) refl))))

using_good : (o : Option (List ℕ)) (r : Result Said ReadCause) → Good is_said r → Good is_said (using_or o r)
using_good (Some file) r here = refl
using_good None r here = here

head_line_good : (later : Bool) (tokens : List Token) → Good is_said (head_line later tokens)
head_line_good later tokens =
    using_good (using_of tokens) _
    (good_cut is_said (cut mark.OpenBrace tokens) (plain_head tokens) (braced_head later) (plain_good tokens)
    (braced_good later))

some_line_good :
    (stand : Stand) (indented later : Bool) (tokens : List Token) →
    Good is_said (some_line stand indented later tokens)
some_line_good Within indented later tokens = within_good tokens
some_line_good Apart true later tokens = item_line_good Apart tokens
some_line_good Apart false later tokens = head_line_good later tokens
some_line_good Under true later tokens = item_line_good Under tokens
some_line_good Under false later tokens = head_line_good later tokens

pub said_good :
    (stand : Stand) (indented later : Bool) (tokens : List Token) →
    Good is_said (said_of stand indented later tokens)
said_good stand indented later [] = refl
said_good stand indented later (t ∷ ts) = some_line_good stand indented later (t ∷ ts)
