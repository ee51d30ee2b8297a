-- The processors: their numbers, speeds and optional extensions.
use Rattle.std.specs.Prelude.{ℕ, ◌+◌, ◌==◌, ◌++◌, nat_lt, Bool, true, false, not, ◌&&◌, ◌||◌, if◌then◌else◌, List}
use Rattle.std.specs.Prelude.{Option, Some, None, codes, filter, map, position, take, option_map}
use Rattle.std.specs.Prelude.{option_and_then}
use Rattle.std.specs.Bool.{beq}
use Rattle.std.specs.List.{sum_by}
use Rattle.std.specs.Str.{bytes_eq}
use Rattle.repl_read.specs.declared.entry.ItemWhat.{ItemWhat}
use Rattle.repl_read.specs.declared.entry.ItemWhat.TheVariants.{Attribute, Wire}
use Rattle.repl_read.specs.declared.entry.Value.TheVariants.{Number, Words, Truth, Name}
use Rattle.rv_hart.specs.declared.letters.Letters.{Letters}
use Rattle.sys_bus.specs.Limits.{most_speed}
use Rattle.repl_build.specs.declared.merge.Peripheral.{Peripheral}
use Rattle.repl_build.specs.declared.merge.PlacedItem.{PlacedItem}
use Rattle.repl_build.specs.declared.types.PeripheralType.TheVariants.{Cpu}
use Rattle.repl_build.specs.Attributes.{is_refused, item_of, number_of}
use Rattle.repl_build.specs.Counts.{count_of, first_with}
use Rattle.repl_build.specs.Types.{is_type}

-- ---- numbers

-- the names of the processors, in the order of the entries
abbrev pub cpus_of : List Peripheral → List (List ℕ)
cpus_of all = map (λ p. p.name) (filter (λ p. is_type Cpu p.kind) all)

-- the processor of this name
abbrev pub is_cpu : List ℕ → Peripheral → Bool
is_cpu name p = is_type Cpu p.kind && bytes_eq p.name name

-- its number: how many processors stand before it
abbrev pub hart_of : List Peripheral → List ℕ → Option ℕ
hart_of all name = option_map (λ i. count_of (take i all) Cpu) (position (is_cpu name) all)

-- ---- speeds

-- a processor's instructions in a microsecond
abbrev pub speed_of : Peripheral → ℕ
speed_of p = if is_type Cpu p.kind then number_of (codes "PerformanceInMips") 100 p.items else 0

abbrev pub is_refused_in : List Peripheral → Peripheral → Option PlacedItem → Bool
is_refused_in before p None = false
is_refused_in before p (Some item) = is_refused p.kind (count_of before Cpu) p.at item.what

-- its own speed is of another sort or out of range
abbrev pub has_no_speed : List Peripheral → Peripheral → Bool
has_no_speed before p = is_refused_in before p (item_of (codes "PerformanceInMips") p.items)

abbrev pub has_other_speed : Option Peripheral → Peripheral → Bool
has_other_speed None p = false
has_other_speed (Some first) p = not (speed_of p == speed_of first)

-- test 6, of a processor: its speed differs from that of the first, or all together are too fast
abbrev pub is_out_of_step : List Peripheral → Peripheral → Bool
is_out_of_step before p =
    is_type Cpu p.kind && not (has_no_speed before p)
    && (has_other_speed (first_with Cpu before) p || nat_lt most_speed (speed_of p + sum_by speed_of before))

-- ---- optional extensions

-- the core, whether or not Zicsr and Zifencei are named
abbrev pub is_core : List ℕ → List ℕ → Bool
is_core core text =
    bytes_eq text core || bytes_eq text (core ++ codes "_zicsr") || bytes_eq text (core ++ codes "_zicsr_zifencei")

-- the letters of the cores that are built
abbrev pub core_letters : List ℕ → Option Letters
core_letters text =
    if is_core (codes "rv32im") text then Some (record { a = false; c = false })
    else if is_core (codes "rv32imc") text then Some (record { a = false; c = true })
    else if is_core (codes "rv32ima") text then Some (record { a = true; c = false })
    else if is_core (codes "rv32imac") text then Some (record { a = true; c = true })
    else None

-- those that a cpuType tells
abbrev pub letters_told : ItemWhat → Option Letters
letters_told (Attribute key (Words text)) = core_letters text
letters_told (Attribute key (Number n)) = None
letters_told (Attribute key (Truth truth)) = None
letters_told (Attribute key (Name name)) = None
letters_told (Wire from to pins) = None

abbrev pub own_letters : Peripheral → Option Letters
own_letters p = option_and_then (λ item. letters_told item.what) (item_of (codes "cpuType") p.items)

-- those of the first processor
abbrev pub first_letters : List Peripheral → Option Letters
first_letters peripherals = option_and_then own_letters (first_with Cpu peripherals)

abbrev pub are_other_letters : Option Letters → Letters → Bool
are_other_letters None letters = false
are_other_letters (Some first) letters = not (beq letters.a first.a && beq letters.c first.c)

-- it is none, or another than that of the first processor
abbrev pub are_no_letters : Option Letters → Option Letters → Bool
are_no_letters first None = true
are_no_letters first (Some letters) = are_other_letters first letters

-- test 7: a cpuType that is not built, or one of other letters than those of the first processor
abbrev pub is_other_core : List Peripheral → ItemWhat → Bool
is_other_core before (Attribute key (Words text)) =
    bytes_eq key (codes "cpuType") && are_no_letters (first_letters before) (core_letters text)
is_other_core before (Attribute key (Number n)) = false
is_other_core before (Attribute key (Truth truth)) = false
is_other_core before (Attribute key (Name name)) = false
is_other_core before (Wire from to pins) = false
