-- A text's entries, or its first fault: the part of Renode's platform description format that is read here.
use Rattle.std.specs.Prelude.{◌≡◌, ℕ, ◌+◌, List, [], ◌∷◌, ◌++◌, map, Option, Some, None, Result, Ok, Err}
use Rattle.std.specs.List.{list_any}
use Rattle.std.specs.Str.Lines.{lines}
use Rattle.std.specs.declared.alloc.Global.{Global}
use Rattle.std.specs.declared.vec.Vec.{Vec}
use Rattle.repl_read.specs.declared.comments.Inside.TheVariants.{Nothing}
use Rattle.repl_read.specs.declared.entry.Entry.{Entry}
use Rattle.repl_read.specs.declared.entry.Head.{Head}
use Rattle.repl_read.specs.declared.entry.Item.{Item}
use Rattle.repl_read.specs.declared.entry.ItemWhat.{ItemWhat}
use Rattle.repl_read.specs.declared.fault.PlatCause.{PlatCause}
use Rattle.repl_read.specs.declared.fault.PlatCause.TheVariants.{Form, Feature}
use Rattle.repl_read.specs.declared.fault.PlatFault.{PlatFault}
use Rattle.repl_read.specs.declared.fault.PlatFault.TheVariants.{At, Memory}
use Rattle.repl_read.specs.declared.fault.ReadCause.{ReadCause}
use Rattle.repl_read.specs.declared.fault.ReadCause.TheVariants as read
use Rattle.repl_read.specs.declared.lines.Stand.{Stand}
use Rattle.repl_read.specs.declared.lines.Stand.TheVariants.{Apart}
use Rattle.repl_read.specs.declared.tokens.TokenLine.{TokenLine}
use Rattle.repl_read.specs.Comments.{blanked}
use Rattle.repl_read.specs.Lines.{said_of, has_close}
use Rattle.repl_read.specs.Tokens.{token_line}

-- a fault: its line and its cause
abbrev pub LineFault : Type 0
LineFault = ℕ × PlatCause

infixl 10 ◌>>=◌
abbrev pub ◌>>=◌ : {A B : Type 0} → Result A LineFault → (A → Result B LineFault) → Result B LineFault
(Ok x) >>= f = f x
(Err fault) >>= f = Err fault

-- a text has faults of its form and features that are left out, and no others
abbrev pub plat_cause : ReadCause → PlatCause
plat_cause read.Form = Form
plat_cause read.Feature = Feature

-- a cause, told with its line
abbrev pub at_line : {X : Type 0} → ℕ → Result X ReadCause → Result X LineFault
at_line n (Ok x) = Ok x
at_line n (Err cause) = Err (n, plat_cause cause)

-- items of one line
abbrev pub items_at : ℕ → List ItemWhat → List Item
items_at n whats = map (λ what. record { line = n; what = what }) whats

-- the items that belong to a head of an earlier line, and the entries that begin
abbrev pub Rest : Type 0
Rest = List Item × List Entry

-- in front of the rest: a head begins an entry, which has the items up to the next head
abbrev pub put : ℕ → Option Head → List Item → Rest → Rest
put n None items rest = (items ++ rest.0, rest.1)
put n (Some head) items rest =
    ([], record { file = 0; line = n; head = head; items = items ++ rest.0 } ∷ rest.1)

-- what lines say, of which the first is line n and stands there
abbrev pub read_lines : Stand → ℕ → List TokenLine → Result Rest LineFault
read_lines stand n [] = Ok ([], [])
read_lines stand n (line ∷ later) = do
  said ← at_line n (said_of stand line.indented (list_any has_close later) line.tokens)
  rest ← read_lines said.next (n + 1) later
  Ok (put n said.head (items_at n said.items) rest)

-- the lines of a text, without its comments, as tokens
abbrev pub token_lines : List ℕ → List TokenLine
token_lines text = map token_line (lines (blanked Nothing text))

abbrev pub entries_of : List TokenLine → Result (List Entry) LineFault
entries_of lines = read_lines Apart 1 lines >>= λ rest. Ok rest.1

-- the entries that a text says, or its first fault
unfoldable pub platform : List ℕ → Result (List Entry) LineFault
platform text = entries_of (token_lines text)

-- entries or a fault in the file with the number 0, unless memory runs out
abbrev pub Tells : Result (Vec Entry Global) PlatFault → Result (List Entry) LineFault → Type 0
Tells (Ok entries) meant = meant ≡ Ok entries.items
Tells (Err (At file line cause)) meant = (file ≡ 0) × (meant ≡ Err (line, cause))
Tells (Err Memory) meant = Unit {0}

-- a text is read as its entries or as its first fault
abbrev pub Reads : List ℕ → Result (Vec Entry Global) PlatFault → Type 0
Reads text result = Tells result (platform text)
