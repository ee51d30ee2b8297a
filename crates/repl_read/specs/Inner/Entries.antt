-- The course of the reader over the lines, from the first to the last.
use Rattle.std.specs.Prelude.{◌≡◌, ℕ, List, [], ◌∷◌, ◌++◌, Option, Some, None, Result, Ok, Err, option_to_list}
use Rattle.std.specs.List.{list_any}
use Rattle.std.specs.Option.{option_map}
use Rattle.repl_read.specs.declared.entry.Entry.{Entry}
use Rattle.repl_read.specs.declared.entry.Head.{Head}
use Rattle.repl_read.specs.declared.entry.Item.{Item}
use Rattle.repl_read.specs.declared.fault.Fault.{Fault}
use Rattle.repl_read.specs.declared.fault.Fault.TheVariants as fault
use Rattle.repl_read.specs.declared.fault.PlatFault.{PlatFault}
use Rattle.repl_read.specs.declared.fault.PlatFault.TheVariants.{At, Memory}
use Rattle.repl_read.specs.declared.lines.Said.{Said}
use Rattle.repl_read.specs.declared.lines.Stand.{Stand}
use Rattle.repl_read.specs.declared.platform.Begun.{Begun}
use Rattle.repl_read.specs.declared.tokens.TokenLine.{TokenLine}
use Rattle.repl_read.specs.Lines.{said_of, has_close, nothing_said}
use Rattle.repl_read.specs.Platform.{LineFault, plat_cause, at_line}

abbrev pub fault_at : ℕ → Fault → PlatFault
fault_at n (fault.Cause cause) = At 0 n (plat_cause cause)
fault_at n fault.Memory = Memory

-- a part of a text, or a fault in the file with the number 0, unless memory runs out
abbrev pub TellsPart : {X : Type 0} → Result X PlatFault → Result X LineFault → Type 0
TellsPart (Ok x) meant = meant ≡ Ok x
TellsPart (Err (At file line cause)) meant = (file ≡ 0) × (meant ≡ Err (line, cause))
TellsPart (Err Memory) meant = Unit {0}

-- what the first of some lines says
abbrev pub said_from : Stand → ℕ → List TokenLine → Result Said LineFault
said_from stand n [] = Ok (nothing_said stand)
said_from stand n (line ∷ later) =
    at_line n (said_of stand line.indented (list_any has_close later) line.tokens)

-- an entry that was begun is an entry so far
abbrev pub begun_entry : Begun → Entry
begun_entry b = record { file = 0; line = b.line; head = b.head; items = b.items.items }

abbrev pub opened : Option Begun → Option Entry
opened begun = option_map begun_entry begun

abbrev pub closed : Option Begun → List Entry
closed begun = option_to_list (opened begun)

-- a head ends the entry before it
abbrev pub done_by : Option Head → List Entry → Option Entry → List Entry
done_by None done begun = done
done_by (Some head) done begun = done ++ option_to_list begun

-- and begins another
abbrev pub begun_by : ℕ → Option Head → Option Entry → Option Entry
begun_by n None begun = begun
begun_by n (Some head) begun = Some (record { file = 0; line = n; head = head; items = [] })

abbrev pub extended : List Item → Entry → Entry
extended items e = record e { items = e.items ++ items }

abbrev pub extended_by : List Item → Option Entry → Option Entry
extended_by items begun = option_map (extended items) begun
