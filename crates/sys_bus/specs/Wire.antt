-- The wires of interrupts: the CLINT's software and timer lines and the contexts of the PLIC lead to pins of the
-- processors; the line of a device to one of these, or to a source of the PLIC.
use Rattle.std.specs.Prelude.{ℕ, ◌==◌, nat_lt, nat_le, Bool, false, ◌&&◌, ◌||◌, List, slice_get, Option, None}
use Rattle.std.specs.Prelude.{Some}
use Rattle.std.specs.List.{list_all}
use Rattle.dev_core.specs.declared.kind.Kind.{Kind}
use Rattle.dev_core.specs.Kind.{row_of}
use Rattle.sys_bus.specs.declared.region.RegionKind.TheVariants.{Clint}
use Rattle.sys_bus.specs.declared.region.Region.{Region}
use Rattle.sys_bus.specs.declared.plan.PlicSize.{PlicSize}
use Rattle.sys_bus.specs.declared.wire.Wire.{Wire}
use Rattle.sys_bus.specs.declared.wire.WireFrom.{WireFrom}
use Rattle.sys_bus.specs.declared.wire.WireFrom.TheVariants.{Soft, Timer, Context, Dev}
use Rattle.sys_bus.specs.declared.wire.WirePin.{WirePin}
use Rattle.sys_bus.specs.declared.wire.WirePin.TheVariants.{Cpu, Source}
use Rattle.sys_bus.specs.Part.{has_region}

-- the machine's software, timer and external interrupts (RISC-V Privileged ISA 20211203, section 3.1.9)
abbrev pub is_pin : ℕ → Bool
is_pin pin = (pin == 3) || (pin == 7) || (pin == 11)

-- sources count from 1, contexts from 0
abbrev pub is_source : Option PlicSize → ℕ → Bool
is_source None source = false
is_source (Some size) source = nat_le 1 source && nat_le source size.sources

abbrev pub is_context : Option PlicSize → ℕ → Bool
is_context None context = false
is_context (Some size) context = nat_lt context size.contexts

-- a device of such a kind has a line
abbrev pub kind_has_line : Option Kind → Bool
kind_has_line (Some kind) = (row_of kind).has_line
kind_has_line None = false

abbrev pub has_line : List Kind → ℕ → Bool
has_line kinds dev = kind_has_line (slice_get kinds dev)

-- the line is there
abbrev pub is_from : List Kind → List Region → Option PlicSize → WireFrom → Bool
is_from kinds regions plic Soft = has_region regions Clint
is_from kinds regions plic Timer = has_region regions Clint
is_from kinds regions plic (Context context) = is_context plic context
is_from kinds regions plic (Dev dev) = has_line kinds dev

-- a wire from there may end here, on a board of so many processors
abbrev pub may_end : Option PlicSize → ℕ → WireFrom → WirePin → Bool
may_end plic processors from (Cpu hart pin) = nat_lt hart processors && is_pin pin
may_end plic processors (Dev dev) (Source source) = is_source plic source
may_end plic processors _ (Source source) = false

abbrev pub are_wires : List Kind → List Region → Option PlicSize → ℕ → List Wire → Bool
are_wires kinds regions plic processors wires =
    list_all (λ wire. is_from kinds regions plic wire.from && may_end plic processors wire.from wire.pin) wires
