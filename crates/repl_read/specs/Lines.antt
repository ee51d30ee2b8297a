-- What one line says, by where it stands.
use Rattle.std.specs.Prelude.{ℕ, ◌||◌, Bool, true, false, if◌then◌else◌, List, [], ◌∷◌, Option, Some, None, Result, Ok}
use Rattle.std.specs.Prelude.{Err}
use Rattle.std.specs.List.{list_any}
use Rattle.repl_read.specs.declared.cuts.Mark.TheVariants as mark
use Rattle.repl_read.specs.declared.entry.Head.TheVariants.{Using}
use Rattle.repl_read.specs.declared.fault.ReadCause.{ReadCause}
use Rattle.repl_read.specs.declared.fault.ReadCause.TheVariants.{Form}
use Rattle.repl_read.specs.declared.lines.Listed.{Listed}
use Rattle.repl_read.specs.declared.lines.Said.{Said}
use Rattle.repl_read.specs.declared.lines.Stand.{Stand}
use Rattle.repl_read.specs.declared.lines.Stand.TheVariants.{Apart, Under, Within}
use Rattle.repl_read.specs.declared.tokens.Token.{Token}
use Rattle.repl_read.specs.declared.tokens.TokenLine.{TokenLine}
use Rattle.repl_read.specs.Cuts.{cut, with_cut, parts, is_mark}
use Rattle.repl_read.specs.Forms.{◌>>=◌, judged}
use Rattle.repl_read.specs.Features.{in_item, in_head, in_list}
use Rattle.repl_read.specs.Heads.{using_of, head_of}
use Rattle.repl_read.specs.Items.{item_of, items_of}

-- whether a line has a `}` outside strings and comments
abbrev pub has_close : TokenLine → Bool
has_close line = list_any (is_mark mark.CloseBrace) line.tokens

-- a blank line changes nothing
abbrev pub nothing_said : Stand → Said
nothing_said stand = record { head = None; items = []; next = stand }

-- items that are parted by `;`
abbrev pub parted_items : List Token → Bool → Result Listed ReadCause
parted_items tokens ended = do
  items ← items_of (parts mark.Semicolon tokens)
  Ok (record { items = items; ended = ended })

-- what stands before `}`, after which nothing may stand
abbrev pub closed_list : List Token → List Token → Result Listed ReadCause
closed_list inner [] = parted_items inner true
closed_list inner (t ∷ ts) = Err Form

-- the items of what stands after `{`, or on a further line between braces
abbrev pub list_of : List Token → Result Listed ReadCause
list_of tokens = with_cut (cut mark.CloseBrace tokens) (parted_items tokens false) closed_list

-- a further line between braces
abbrev pub within_line : List Token → Result Said ReadCause
within_line tokens = judged (in_list tokens) (do
  list ← list_of tokens
  Ok (record { head = None; items = list.items; next = if list.ended then Apart else Within }))

-- an indented line, which belongs to a head or to none
abbrev pub item_line : Stand → List Token → Result Said ReadCause
item_line Under tokens = judged (in_item tokens) (do
  item ← item_of tokens
  Ok (record { head = None; items = item ∷ []; next = Under }))
item_line other tokens = judged (in_item tokens) (Err Form)

-- where the lines after a `{` stand, which must be closed on this line or on a later one
abbrev pub after_brace : Bool → Bool → Result Stand ReadCause
after_brace true later = Ok Apart
after_brace false true = Ok Within
after_brace false false = Err Form

-- a head alone
abbrev pub plain_head : List Token → Result Said ReadCause
plain_head tokens = judged (in_head tokens) (do
  head ← head_of tokens
  Ok (record { head = Some head; items = []; next = Under }))

-- a head with `{` and items
abbrev pub braced_head : Bool → List Token → List Token → Result Said ReadCause
braced_head later front rest = judged (in_head front || in_list rest) (do
  head ← head_of front
  list ← list_of rest
  stand ← after_brace list.ended later
  Ok (record { head = Some head; items = list.items; next = stand }))

abbrev pub using_or : Option (List ℕ) → Result Said ReadCause → Result Said ReadCause
using_or (Some file) other = Ok (record { head = Some (Using file); items = []; next = Apart })
using_or None other = other

-- a line that is not indented
abbrev pub head_line : Bool → List Token → Result Said ReadCause
head_line later tokens =
    using_or (using_of tokens) (with_cut (cut mark.OpenBrace tokens) (plain_head tokens) (braced_head later))

abbrev pub some_line : Stand → Bool → Bool → List Token → Result Said ReadCause
some_line Within indented later tokens = within_line tokens
some_line stand true later tokens = item_line stand tokens
some_line stand false later tokens = head_line later tokens

-- what a line says; `later` tells whether a later line has a `}`
abbrev pub said_of : Stand → Bool → Bool → List Token → Result Said ReadCause
said_of stand indented later [] = Ok (nothing_said stand)
said_of stand indented later (t ∷ ts) = some_line stand indented later (t ∷ ts)
