-- The wires that a platform text tells, and when a plan has them.
use Rattle.std.specs.Prelude.{◌≡◌, ℕ, ◌==◌, List, [], ◌∷◌, ◌++◌, Option, None, Some, if◌then◌else◌, slice_get}
use Rattle.std.specs.List.{flat_map}
use Rattle.repl_read.specs.declared.entry.Ends.{Ends}
use Rattle.repl_read.specs.declared.entry.Ends.TheVariants.{Absent, Irq, Spans}
use Rattle.repl_read.specs.declared.entry.Entry.{Entry}
use Rattle.repl_read.specs.declared.entry.Head.{Head}
use Rattle.repl_read.specs.declared.entry.Head.TheVariants.{Using, Typed, Update}
use Rattle.repl_read.specs.declared.entry.Item.{Item}
use Rattle.repl_read.specs.declared.entry.ItemWhat.{ItemWhat}
use Rattle.repl_read.specs.declared.entry.ItemWhat.TheVariants as item
use Rattle.sys_bus.specs.declared.plan.Named.{Named}
use Rattle.sys_bus.specs.declared.plan.NamedWhat.{NamedWhat}
use Rattle.sys_bus.specs.declared.plan.NamedWhat.TheVariants as what
use Rattle.sys_bus.specs.declared.region.RegionKind.TheVariants as part
use Rattle.sys_bus.specs.declared.wire.Wire.{Wire}
use Rattle.sys_bus.specs.declared.wire.WireFrom.{WireFrom}
use Rattle.sys_bus.specs.declared.wire.WireFrom.TheVariants.{Soft, Timer, Context, Dev}
use Rattle.sys_bus.specs.declared.wire.WirePin.{WirePin}
use Rattle.sys_bus.specs.declared.wire.WirePin.TheVariants.{Cpu, Source}
use Rattle.repl_build.specs.Merge.{updates}
use Rattle.repl_build.specs.Wires.{numbers_of}

-- the wires of one item, one by one: from the lines of what has one name to the pins of what has another
pub record Connection : Type 0 where
  pub source : List ℕ
  pub lines : List ℕ
  pub target : List ℕ
  pub pins : List ℕ

-- the numbers of an end; one that is absent, and `IRQ`, is line 0
abbrev pub numbers : Ends → List ℕ
numbers Absent = 0 ∷ []
numbers Irq = 0 ∷ []
numbers (Spans spans) = flat_map numbers_of spans

abbrev pub connection : List ℕ → ItemWhat → List Connection
connection name (item.Attribute key value) = []
connection name (item.Wire from to pins) =
    record { source = name; lines = numbers from; target = to; pins = numbers pins } ∷ []

-- those of the items of an entry, which are given to the name
abbrev pub connections_in : List ℕ → List Item → List Connection
connections_in name items = flat_map (λ i. connection name i.what) items

abbrev pub further_connections : List ℕ → Entry → List Connection
further_connections name entry = if updates name entry.head then connections_in name entry.items else []

-- of a name: those in the entry that gives it its type, and then the further ones
abbrev pub connections_by : List Entry → Entry → Head → List Connection
connections_by entries entry (Typed name type_name at) =
    connections_in name entry.items ++ flat_map (further_connections name) entries
connections_by entries entry (Using file) = []
connections_by entries entry (Update name) = []

-- all that the text tells
abbrev pub connections : List Entry → List Connection
connections entries = flat_map (λ entry. connections_by entries entry entry.head) entries

-- the line of this number of what a name stands for
abbrev pub line_from : NamedWhat → ℕ → Option WireFrom
line_from what.Cpu line = None
line_from (what.Part (part.Ram i)) line = None
line_from (what.Part part.Clint) line = if line == 0 then Some Soft else if line == 1 then Some Timer else None
line_from (what.Part part.Plic) line = Some (Context line)
line_from (what.Part (part.Dev i)) line = if line == 0 then Some (Dev i) else None

-- the end is the pin of this number: of the processor that has the name, or of the interrupt controller
abbrev pub IsPin : List (List ℕ) → List ℕ → NamedWhat → ℕ → WirePin → Type 0
IsPin cpus name what.Cpu pin (Cpu hart n) = (slice_get cpus hart ≡ Some name) × (n ≡ pin)
IsPin cpus name what.Cpu pin (Source n) = ⊥
IsPin cpus name (what.Part part.Plic) pin (Source n) = n ≡ pin
IsPin cpus name (what.Part _) pin _ = ⊥

-- a name stands for this
abbrev pub StandsFor : List Named → List ℕ → NamedWhat → Type 0
StandsFor names name what = (i : ℕ) × (slice_get names i ≡ Some (record { name = name; what = what }))

-- a wire leads from a line of what one name stands for to a pin of what another stands for
pub record Leads (names : List Named) (cpus : List (List ℕ)) (source : List ℕ) (line : ℕ) (target : List ℕ) (pin : ℕ)
    (wire : Wire) : Type 0 where
  pub first : NamedWhat
  pub is_source : StandsFor names source first
  pub begins : line_from first line ≡ Some wire.from
  pub last : NamedWhat
  pub is_target : StandsFor names target last
  pub ends : IsPin cpus target last pin wire.pin

-- a wire for each line and pin
abbrev pub AreLed : List Named → List (List ℕ) → List ℕ → List ℕ → List ℕ → List ℕ → List Wire → Type 0
AreLed names cpus source target [] [] [] = Unit {0}
AreLed names cpus source target (line ∷ lines) (pin ∷ pins) (wire ∷ wires) =
    Leads names cpus source line target pin wire × AreLed names cpus source target lines pins wires
AreLed names cpus source target _ _ _ = ⊥

-- these are the wires of the connections in their order, and no others
abbrev pub AreConnected : List Named → List (List ℕ) → List Connection → List Wire → Type 0
AreConnected names cpus [] wires = wires ≡ []
AreConnected names cpus (c ∷ cs) wires =
    (mine : List Wire) × ((others : List Wire) × ((wires ≡ mine ++ others)
    × (AreLed names cpus c.source c.target c.lines c.pins mine × AreConnected names cpus cs others)))
