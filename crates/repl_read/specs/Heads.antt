-- The first line of an entry, with its registration (Renode's platform description format): `using "file"`, `name:`,
-- `name: Type`, `name: Type @ sysbus`, `name: Type @ sysbus ADDR` or `name: Type @ sysbus <ADDR, +SIZE>`.
use Rattle.std.specs.Prelude.{ℕ, List, [], ◌∷◌, Option, Some, None, if◌then◌else◌, codes, Result, Ok, Err}
use Rattle.std.specs.Str.{bytes_eq}
use Rattle.repl_read.specs.declared.entry.Head.{Head}
use Rattle.repl_read.specs.declared.entry.Head.TheVariants.{Typed, Update}
use Rattle.repl_read.specs.declared.entry.Place.{Place}
use Rattle.repl_read.specs.declared.entry.Place.TheVariants.{Absent, Bus, Address, Range}
use Rattle.repl_read.specs.declared.fault.ReadCause.{ReadCause}
use Rattle.repl_read.specs.declared.fault.ReadCause.TheVariants.{Form}
use Rattle.repl_read.specs.declared.tokens.Token.{Token}
use Rattle.repl_read.specs.declared.tokens.Token.TheVariants.{Word, Quoted, Colon, At, Less, More, Comma, Plus}
use Rattle.lab_num.specs.Numeral.{number_of}
use Rattle.lab_num.specs.Name.{is_identifier}
use Rattle.repl_read.specs.Words.{is_dotted_name}
use Rattle.repl_read.specs.Forms.{◌>>=◌, require, number}

-- the file that the line names, if it is `using "file"`
abbrev pub using_of : List Token → Option (List ℕ)
using_of (Word word ∷ Quoted file ∷ []) = if bytes_eq word (codes "using") then Some file else None
using_of other = None

-- where an entry is registered, by what stands after its type
abbrev pub place_of : List Token → Result Place ReadCause
place_of [] = Ok Absent
place_of (At ∷ Word word ∷ []) = do
  on ← require (bytes_eq word (codes "sysbus"))
  Ok Bus
place_of (At ∷ Word word ∷ Word base ∷ []) = do
  on ← require (bytes_eq word (codes "sysbus"))
  base ← number (number_of base)
  Ok (Address base)
place_of (At ∷ Word word ∷ Less ∷ Word base ∷ Comma ∷ Plus ∷ Word size ∷ More ∷ []) = do
  on ← require (bytes_eq word (codes "sysbus"))
  base ← number (number_of base)
  size ← number (number_of size)
  Ok (Range base size)
place_of other = Err Form

-- the head that a line's tokens make
abbrev pub head_of : List Token → Result Head ReadCause
head_of (Word name ∷ Colon ∷ []) = do
  good ← require (is_identifier name)
  Ok (Update name)
head_of (Word name ∷ Colon ∷ Word kind ∷ rest) = do
  good ← require (is_identifier name)
  typed ← require (is_dotted_name kind)
  place ← place_of rest
  Ok (Typed name kind place)
head_of other = Err Form
