-- Words in which the laws of plans are said: what the entries with types tell, and what a plan has.
use Rattle.std.specs.Prelude.{ℕ, List, [], ◌∷◌, Option, None, Some, slice_get, if◌then◌else◌}
use Rattle.dev_core.specs.declared.kind.Kind.{Kind}
use Rattle.repl_read.specs.declared.entry.Entry.{Entry}
use Rattle.repl_read.specs.declared.entry.Head.{Head}
use Rattle.repl_read.specs.declared.entry.Head.TheVariants.{Using, Typed, Update}
use Rattle.repl_read.specs.declared.entry.Place.{Place}
use Rattle.repl_read.specs.declared.entry.Place.TheVariants.{Absent, Bus, Address, Range}
use Rattle.sys_bus.specs.declared.plan.Named.{Named}
use Rattle.sys_bus.specs.declared.plan.NamedWhat.{NamedWhat}
use Rattle.sys_bus.specs.declared.plan.NamedWhat.TheVariants as what
use Rattle.sys_bus.specs.declared.region.Region.{Region}
use Rattle.sys_bus.specs.declared.region.RegionKind.{RegionKind}
use Rattle.sys_bus.specs.declared.region.RegionKind.TheVariants as part
use Rattle.repl_build.specs.declared.merge.PlacedItem.{PlacedItem}
use Rattle.repl_build.specs.declared.types.PeripheralType.{PeripheralType}
use Rattle.repl_build.specs.declared.types.PeripheralType.TheVariants.{Cpu, Memory, Clint, Plic, Device}
use Rattle.repl_build.specs.Merge.{merged_items}
use Rattle.repl_build.specs.Places.{usual_size}
use Rattle.repl_build.specs.Types.{is_type, type_of}

-- the name of an entry with a type
abbrev pub typed_name : Head → List (List ℕ)
typed_name (Typed name type_name at) = name ∷ []
typed_name (Using file) = []
typed_name (Update name) = []

-- its type
abbrev pub typed_type : Head → List (Option PeripheralType)
typed_type (Typed name type_name at) = type_of type_name ∷ []
typed_type (Using file) = []
typed_type (Update name) = []

-- its name, if it is a processor
abbrev pub processor_name : Head → List (List ℕ)
processor_name (Typed name type_name at) = if is_type Cpu (type_of type_name) then name ∷ [] else []
processor_name (Using file) = []
processor_name (Update name) = []

-- The first address and the size of what is registered at an address. Where no range says the size, it is that of the
-- type, or a memory's attribute.
abbrev pub place_at : Option PeripheralType → List PlacedItem → Place → List (ℕ × ℕ)
place_at type_ items (Address base) = (base, usual_size type_ items) ∷ []
place_at type_ items (Range base size) = (base, size) ∷ []
place_at type_ items Bus = []
place_at type_ items Absent = []

abbrev pub typed_place : List Entry → Entry → Head → List (ℕ × ℕ)
typed_place entries entry (Typed name type_name at) =
    place_at (type_of type_name) (merged_items entries name entry) at
typed_place entries entry (Using file) = []
typed_place entries entry (Update name) = []

-- the same of a region
abbrev pub place_in : Region → ℕ × ℕ
place_in region = (region.base, region.size)

-- the part that a name stands for, unless it is a processor's
abbrev pub part_by : NamedWhat → List RegionKind
part_by what.Cpu = []
part_by (what.Part part) = part ∷ []

abbrev pub part_of : Named → List RegionKind
part_of named = part_by named.what

-- the type of what a name stands for, where these are the kinds of the devices
abbrev pub type_by : Option Kind → Option PeripheralType
type_by (Some kind) = Some (Device kind)
type_by None = None

abbrev pub type_in : List Kind → NamedWhat → Option PeripheralType
type_in kinds what.Cpu = Some Cpu
type_in kinds (what.Part (part.Ram i)) = Some Memory
type_in kinds (what.Part part.Clint) = Some Clint
type_in kinds (what.Part part.Plic) = Some Plic
type_in kinds (what.Part (part.Dev i)) = type_by (slice_get kinds i)
