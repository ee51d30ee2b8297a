-- The attributes that each type has, and the values that they take.
use Rattle.std.specs.Prelude.{ℕ, ◌%◌, ◌==◌, nat_le, Bool, true, false, not, ◌&&◌, if◌then◌else◌, List, Option}
use Rattle.std.specs.Prelude.{Some, None, is_none, find, codes}
use Rattle.std.specs.List.{list_any}
use Rattle.std.specs.Str.{bytes_eq}
use Rattle.repl_read.specs.declared.entry.ItemWhat.{ItemWhat}
use Rattle.repl_read.specs.declared.entry.ItemWhat.TheVariants.{Attribute, Wire}
use Rattle.repl_read.specs.declared.entry.Place.{Place}
use Rattle.repl_read.specs.declared.entry.Place.TheVariants.{Absent, Bus, Address, Range}
use Rattle.repl_read.specs.declared.entry.Value.{Value}
use Rattle.repl_read.specs.declared.entry.Value.TheVariants.{Number, Words, Truth, Name}
use Rattle.dev_core.specs.declared.kind.Kind.{Kind}
use Rattle.dev_core.specs.Kind.{row_of}
use Rattle.page_ram.specs.Access.{page_size}
use Rattle.sys_bus.specs.Limits.{most_speed, most_frequency, most_sources, most_contexts}
use Rattle.repl_build.specs.declared.attributes.Sort.{Sort}
use Rattle.repl_build.specs.declared.attributes.Sort.TheVariants.{Quoted, Reference, Flag, Yes, Hart, Within, Size}
use Rattle.repl_build.specs.declared.merge.PlacedItem.{PlacedItem}
use Rattle.repl_build.specs.declared.types.PeripheralType.{PeripheralType}
use Rattle.repl_build.specs.declared.types.PeripheralType.TheVariants as kind
use Rattle.repl_build.specs.Names.{has_key}

abbrev pub cpu_sort : List ℕ → Option Sort
cpu_sort key =
    if bytes_eq key (codes "cpuType") then Some Quoted
    else if bytes_eq key (codes "timeProvider") then Some Reference
    else if bytes_eq key (codes "hartId") then Some Hart
    else if bytes_eq key (codes "PerformanceInMips") then Some (Within 1 most_speed)
    else if bytes_eq key (codes "privilegeArchitecture") then Some Reference
    else if bytes_eq key (codes "privilegedArchitecture") then Some Reference
    else None

abbrev pub memory_sort : List ℕ → Option Sort
memory_sort key = if bytes_eq key (codes "size") then Some Size else None

abbrev pub clint_sort : List ℕ → Option Sort
clint_sort key =
    if bytes_eq key (codes "frequency") then Some (Within 1 most_frequency)
    else if bytes_eq key (codes "numberOfTargets") then Some (Within 1 1)
    else None

abbrev pub plic_sort : List ℕ → Option Sort
plic_sort key =
    if bytes_eq key (codes "numberOfSources") then Some (Within 1 most_sources)
    else if bytes_eq key (codes "numberOfContexts") then Some (Within 1 most_contexts)
    else if bytes_eq key (codes "prioritiesEnabled") then Some Yes
    else None

-- devices whose registers may lie four bytes apart say so by `wideRegisters`
abbrev pub device_sort : Kind → List ℕ → Option Sort
device_sort device key =
    if (row_of device).may_be_wide && bytes_eq key (codes "wideRegisters") then Some Flag else None

-- what an attribute of a type takes, if the type has it
abbrev pub sort_of : Option PeripheralType → List ℕ → Option Sort
sort_of (Some kind.Cpu) key = cpu_sort key
sort_of (Some kind.Memory) key = memory_sort key
sort_of (Some kind.Clint) key = clint_sort key
sort_of (Some kind.Plic) key = plic_sort key
sort_of (Some (kind.Device device)) key = device_sort device key
sort_of None key = None

-- test 4: an attribute that is unknown for its type
abbrev pub is_unknown : Option PeripheralType → ItemWhat → Bool
is_unknown type_ (Attribute key value) = is_none (sort_of type_ key)
is_unknown type_ (Wire from to pins) = false

-- whole pages, at least one
abbrev pub is_memory_size : ℕ → Bool
is_memory_size size = (size % page_size == 0) && nat_le page_size size

-- the size of a memory is that of its range, if it has one
abbrev pub fits_range : Place → ℕ → Bool
fits_range (Range base size) n = n == size
fits_range (Address base) n = true
fits_range Bus n = true
fits_range Absent n = true

-- a value that an attribute takes, of what stands there and has so many processors before it
abbrev pub takes : Sort → ℕ → Place → Value → Bool
takes Quoted before at (Words text) = true
takes Quoted before at (Name name) = false
takes Quoted before at (Truth truth) = false
takes Quoted before at (Number n) = false
takes Reference before at (Words text) = false
takes Reference before at (Name name) = true
takes Reference before at (Truth truth) = false
takes Reference before at (Number n) = false
takes Flag before at (Words text) = false
takes Flag before at (Name name) = false
takes Flag before at (Truth truth) = true
takes Flag before at (Number n) = false
takes Yes before at (Words text) = false
takes Yes before at (Name name) = false
takes Yes before at (Truth truth) = truth
takes Yes before at (Number n) = false
takes Hart before at (Words text) = false
takes Hart before at (Name name) = false
takes Hart before at (Truth truth) = false
takes Hart before at (Number n) = n == before
takes (Within least most) before at (Words text) = false
takes (Within least most) before at (Name name) = false
takes (Within least most) before at (Truth truth) = false
takes (Within least most) before at (Number n) = nat_le least n && nat_le n most
takes Size before at (Words text) = false
takes Size before at (Name name) = false
takes Size before at (Truth truth) = false
takes Size before at (Number n) = is_memory_size n && fits_range at n

abbrev pub takes_by : Option Sort → ℕ → Place → Value → Bool
takes_by (Some sort) before at value = takes sort before at value
takes_by None before at value = true

-- test 6, of an item: a value of another sort or out of range
abbrev pub is_refused : Option PeripheralType → ℕ → Place → ItemWhat → Bool
is_refused type_ before at (Attribute key value) = not (takes_by (sort_of type_ key) before at value)
is_refused type_ before at (Wire from to pins) = false

-- an attribute's item, if it stands there
abbrev pub item_of : List ℕ → List PlacedItem → Option PlacedItem
item_of key items = find (λ item. has_key key item.what) items

abbrev pub has_attribute : List ℕ → List PlacedItem → Bool
has_attribute key items = list_any (λ item. has_key key item.what) items

abbrev pub number_by : ℕ → ItemWhat → ℕ
number_by default (Attribute key (Number n)) = n
number_by default (Attribute key (Words text)) = default
number_by default (Attribute key (Truth truth)) = default
number_by default (Attribute key (Name name)) = default
number_by default (Wire from to pins) = default

abbrev pub number_in : ℕ → Option PlacedItem → ℕ
number_in default None = default
number_in default (Some item) = number_by default item.what

-- the number that an attribute has, or its default
abbrev pub number_of : List ℕ → ℕ → List PlacedItem → ℕ
number_of key default items = number_in default (item_of key items)

abbrev pub is_true : ItemWhat → Bool
is_true (Attribute key (Truth truth)) = truth
is_true (Attribute key (Words text)) = false
is_true (Attribute key (Number n)) = false
is_true (Attribute key (Name name)) = false
is_true (Wire from to pins) = false

abbrev pub is_true_in : Option PlacedItem → Bool
is_true_in None = false
is_true_in (Some item) = is_true item.what

-- whether an attribute stands there and is true
abbrev pub is_set : List ℕ → List PlacedItem → Bool
is_set key items = is_true_in (item_of key items)
