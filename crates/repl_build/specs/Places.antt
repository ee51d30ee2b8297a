-- Where peripherals stand: their registration, addresses and sizes.
use Rattle.std.specs.Prelude.{ℕ, ◌+◌, ◌^◌, ◌%◌, ◌==◌, nat_le, nat_lt, min, max, Bool, true, false, not, ◌&&◌, ◌||◌}
use Rattle.std.specs.Prelude.{List, Option, Some, None, if◌then◌else◌, codes}
use Rattle.std.specs.List.{list_any}
use Rattle.repl_read.specs.declared.entry.Place.{Place}
use Rattle.repl_read.specs.declared.entry.Place.TheVariants.{Absent, Bus, Address, Range}
use Rattle.dev_core.specs.Kind.{least_size_of, row_of}
use Rattle.page_ram.specs.Access.{page_size}
use Rattle.sys_bus.specs.Limits.{region_unit, least_clint, least_plic}
use Rattle.repl_build.specs.declared.merge.Peripheral.{Peripheral}
use Rattle.repl_build.specs.declared.merge.PlacedItem.{PlacedItem}
use Rattle.repl_build.specs.declared.types.PeripheralType.{PeripheralType}
use Rattle.repl_build.specs.declared.types.PeripheralType.TheVariants.{Cpu, Memory, Clint, Plic, Device}
use Rattle.repl_build.specs.Attributes.{has_attribute, number_of, is_set}

-- a processor is registered without an address, and all else with one
abbrev pub is_registered : Option PeripheralType → Place → Bool
is_registered (Some Cpu) Bus = true
is_registered (Some Cpu) _ = false
is_registered _ (Address base) = true
is_registered _ (Range base size) = true
is_registered _ Bus = false
is_registered _ Absent = false

abbrev pub has_range : Place → Bool
has_range (Range base size) = true
has_range _ = false

-- the attributes that a type requires
abbrev pub has_required : Option PeripheralType → Place → List PlacedItem → Bool
has_required (Some Cpu) at items = has_attribute (codes "cpuType") items
has_required (Some Memory) at items = has_range at || has_attribute (codes "size") items
has_required (Some Clint) at items = has_attribute (codes "frequency") items
has_required (Some Plic) at items = has_attribute (codes "numberOfSources") items
has_required (Some (Device kind)) at items = true
has_required None at items = true

-- test 5: a required attribute or registration is absent, or a processor has an address, or another type has none
abbrev pub is_lacking : Peripheral → Bool
is_lacking p = not (is_registered p.kind p.at && has_required p.kind p.at p.items)

-- the registers of a device that may be wide lie 4 bytes apart where `wideRegisters` says so, and those of all else 1
abbrev pub step_of : Option PeripheralType → List PlacedItem → ℕ
step_of (Some (Device kind)) items =
    if (row_of kind).may_be_wide && is_set (codes "wideRegisters") items then 4 else 1
step_of _ items = 1

-- the fewest bytes
abbrev pub least_of : Option PeripheralType → ℕ → ℕ
least_of (Some Cpu) step = 0
least_of (Some Memory) step = page_size
least_of (Some Clint) step = least_clint
least_of (Some Plic) step = least_plic
least_of (Some (Device kind)) step = least_size_of kind step
least_of None step = 0

-- a memory has whole pages, and all else whole words
abbrev pub is_unit : Option PeripheralType → ℕ → Bool
is_unit (Some Memory) size = size % page_size == 0
is_unit _ size = size % region_unit == 0

abbrev pub is_place : Option PeripheralType → ℕ → Place → Bool
is_place type_ step (Address base) = base % region_unit == 0
is_place type_ step (Range base size) =
    (base % region_unit == 0) && is_unit type_ size && nat_le (least_of type_ step) size
is_place type_ step Bus = true
is_place type_ step Absent = true

-- test 6, of an entry: an address or size of a wrong multiple or below the least
abbrev pub is_misplaced : Peripheral → Bool
is_misplaced p = not (is_place p.kind (step_of p.kind p.items) p.at)

-- the size in bytes where no range says it
abbrev pub usual_size : Option PeripheralType → List PlacedItem → ℕ
usual_size (Some Cpu) items = 0
usual_size (Some Memory) items = number_of (codes "size") 0 items
usual_size (Some Clint) items = 0x1_0000
usual_size (Some Plic) items = 0x400_0000
usual_size (Some (Device kind)) items = (row_of kind).usual_size
usual_size None items = 0

abbrev pub size_at : ℕ → Place → ℕ
size_at usual (Range base size) = size
size_at usual _ = usual

abbrev pub size_of : Peripheral → ℕ
size_of p = size_at (usual_size p.kind p.items) p.at

abbrev pub base_at : Place → ℕ
base_at (Address base) = base
base_at (Range base size) = base
base_at Bus = 0
base_at Absent = 0

abbrev pub base_of : Peripheral → ℕ
base_of p = base_at p.at

-- the address after the last byte
abbrev pub end_of : Peripheral → ℕ
end_of p = base_of p + size_of p

-- a byte lies in both
abbrev pub overlaps : Peripheral → Peripheral → Bool
overlaps a b = nat_lt (max (base_of a) (base_of b)) (min (end_of a) (end_of b))

-- test 9: it overlaps an earlier one, or ends past 2^32
abbrev pub collides : List Peripheral → Peripheral → Bool
collides before p = nat_lt (2 ^ 32) (end_of p) || list_any (overlaps p) before
