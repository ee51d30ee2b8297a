-- The wires: interrupt lines, connected one by one with pins of the processors or sources of the PLIC.
use Rattle.std.specs.Prelude.{ℕ, ◌+◌, ◌-◌, ◌==◌, nat_le, Bool, true, false, ◌&&◌, if◌then◌else◌, List, []}
use Rattle.std.specs.Prelude.{◌∷◌, ◌++◌, Option, Some, None, Result, Ok, Err}
use Rattle.std.specs.List.{list_all, flat_map, range_with_len}
use Rattle.dev_core.specs.Kind.{row_of}
use Rattle.repl_read.specs.declared.entry.Ends.{Ends}
use Rattle.repl_read.specs.declared.entry.Ends.TheVariants.{Absent, Irq, Spans}
use Rattle.repl_read.specs.declared.entry.ItemWhat.{ItemWhat}
use Rattle.repl_read.specs.declared.entry.ItemWhat.TheVariants as item
use Rattle.repl_read.specs.declared.entry.Span.{Span}
use Rattle.repl_read.specs.declared.fault.PlatCause.TheVariants.{Line}
use Rattle.repl_read.specs.declared.fault.PlatFault.{PlatFault}
use Rattle.repl_read.specs.declared.fault.PlatFault.TheVariants.{At}
use Rattle.sys_bus.specs.Limits.{most_sources}
use Rattle.sys_bus.specs.declared.plan.PlicSize.{PlicSize}
use Rattle.sys_bus.specs.declared.wire.Wire.{Wire}
use Rattle.sys_bus.specs.declared.wire.WireFrom.{WireFrom}
use Rattle.sys_bus.specs.declared.wire.WireFrom.TheVariants.{Soft, Timer, Context, Dev}
use Rattle.sys_bus.specs.declared.wire.WirePin.{WirePin}
use Rattle.sys_bus.specs.declared.wire.WirePin.TheVariants.{Cpu, Source}
use Rattle.sys_bus.specs.Wire.{is_context, may_end}
use Rattle.repl_build.specs.declared.merge.Peripheral.{Peripheral}
use Rattle.repl_build.specs.declared.merge.PlacedItem.{PlacedItem}
use Rattle.repl_build.specs.declared.types.PeripheralType.{PeripheralType}
use Rattle.repl_build.specs.declared.types.PeripheralType.TheVariants as kind
use Rattle.repl_build.specs.Counts.{count_of}
use Rattle.repl_build.specs.First.{◌>>=◌}
use Rattle.repl_build.specs.Processors.{hart_of}

abbrev pub numbers_of : Span → List ℕ
numbers_of span = range_with_len span.first (span.last + 1 - span.first)

-- no line and no pin has a number above that of the greatest source
abbrev pub is_low : Span → Bool
is_low span = nat_le span.last most_sources

-- the numbers that an end of a wire names, unless one is beyond all lines and pins; an absent end is line 0
abbrev pub ends_of : Ends → Option (List ℕ)
ends_of Absent = Some (0 ∷ [])
ends_of Irq = Some (0 ∷ [])
ends_of (Spans spans) = if list_all is_low spans then Some (flat_map numbers_of spans) else None

-- the line of this number: the CLINT has 0 (software) and 1 (timer), the PLIC its contexts, a device of a kind with a
-- line 0, and nothing else has one
abbrev pub line_of : Option PlicSize → Option PeripheralType → ℕ → ℕ → Option WireFrom
line_of plic (Some kind.Clint) dev line = if line == 0 then Some Soft else if line == 1 then Some Timer else None
line_of plic (Some kind.Plic) dev line = if is_context plic line then Some (Context line) else None
line_of plic (Some (kind.Device device)) dev line =
    if (row_of device).has_line && (line == 0) then Some (Dev dev) else None
line_of plic _ dev line = None

-- the pin of the processor of this number, or else a source of the PLIC
abbrev pub pin_by : Option ℕ → ℕ → WirePin
pin_by (Some hart) pin = Cpu hart pin
pin_by None pin = Source pin

abbrev pub wire_if : Option PlicSize → ℕ → WireFrom → WirePin → Option Wire
wire_if plic processors from pin =
    if may_end plic processors from pin then Some (record { from = from; pin = pin }) else None

abbrev pub wire_by : Option PlicSize → ℕ → Option WireFrom → WirePin → Option Wire
wire_by plic processors None pin = None
wire_by plic processors (Some from) pin = wire_if plic processors from pin

-- the wire from a line to a pin, if it is one that a board of so many processors may have
abbrev pub wire_at : Option PlicSize → ℕ → Option PeripheralType → ℕ → Option ℕ → ℕ → ℕ → Option Wire
wire_at plic processors type_ dev hart line pin =
    wire_by plic processors (line_of plic type_ dev line) (pin_by hart pin)

abbrev pub in_front : Option Wire → Option (List Wire) → Option (List Wire)
in_front (Some wire) (Some wires) = Some (wire ∷ wires)
in_front _ _ = None

-- lines and pins, one by one
abbrev pub wired : (ℕ → ℕ → Option Wire) → List ℕ → List ℕ → Option (List Wire)
wired wire [] [] = Some []
wired wire (line ∷ lines) (pin ∷ pins) = in_front (wire line pin) (wired wire lines pins)
wired wire _ _ = None

abbrev pub wired_ends : (ℕ → ℕ → Option Wire) → Option (List ℕ) → Option (List ℕ) → Option (List Wire)
wired_ends wire (Some lines) (Some pins) = wired wire lines pins
wired_ends wire _ _ = None

-- devices of a type have a line of their own
abbrev pub has_line : Option PeripheralType → Bool
has_line (Some (kind.Device device)) = (row_of device).has_line
has_line _ = false

-- `IRQ` is the one line of a device
abbrev pub has_ends : Option PeripheralType → Ends → Bool
has_ends type_ Irq = has_line type_
has_ends type_ _ = true

abbrev pub wires_between : Option PlicSize → ℕ → Option PeripheralType → ℕ → Option ℕ → Ends → Ends →
    Option (List Wire)
wires_between plic processors type_ dev hart from pins =
    if has_ends type_ from
    then wired_ends (wire_at plic processors type_ dev hart) (ends_of from) (ends_of pins)
    else None

-- the wires of an item of the device with this number
abbrev pub item_wires : Option PlicSize → List Peripheral → Option PeripheralType → ℕ → ItemWhat → Option (List Wire)
item_wires plic all type_ dev (item.Attribute key value) = Some []
item_wires plic all type_ dev (item.Wire from to pins) =
    wires_between plic (count_of all kind.Cpu) type_ dev (hart_of all to) from pins

abbrev pub wires_or : PlatFault → Option (List Wire) → Result (List Wire) PlatFault
wires_or fault (Some wires) = Ok wires
wires_or fault None = Err fault

-- test 11, of an item: lists of different lengths, a source line or pin out of range, or a pair of types that cannot be
-- connected
abbrev pub placed_wires : Option PlicSize → List Peripheral → Option PeripheralType → ℕ → PlacedItem →
    Result (List Wire) PlatFault
placed_wires plic all type_ dev i =
    wires_or (At i.file i.line Line) (item_wires plic all type_ dev i.what)

-- the wires of items in order, or the first fault
abbrev pub items_wires : (PlacedItem → Result (List Wire) PlatFault) → List PlacedItem → Result (List Wire) PlatFault
items_wires wires_of [] = Ok []
items_wires wires_of (i ∷ items) = do
  first ← wires_of i
  rest ← items_wires wires_of items
  Ok (first ++ rest)
