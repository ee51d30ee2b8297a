-- How many parts a board has, how large they are, and the ranges of its numbers. Each number stands here by itself; the
-- code has it once more, as a constant, and the proof compares the two.
use Rattle.std.specs.Prelude.{ℕ, ◌+◌, ◌*◌, ◌%◌, ◌==◌, nat_le, Bool, true, ◌&&◌, List}
use Rattle.std.specs.Prelude.{length, sum, count_by, slice_get, Option, None, Some}
use Rattle.std.specs.List.{list_all}
use Rattle.dev_core.specs.declared.kind.Kind.{Kind}
use Rattle.dev_core.specs.Kind.{is_kind, is_step_of, least_size_of, row_of, rows}
use Rattle.page_ram.specs.Access.{page_size}
use Rattle.sys_bus.specs.declared.region.RegionKind.{RegionKind}
use Rattle.sys_bus.specs.declared.region.RegionKind.TheVariants.{Ram, Clint, Plic, Dev}
use Rattle.sys_bus.specs.declared.region.Region.{Region}
use Rattle.sys_bus.specs.declared.plan.PlicSize.{PlicSize}

-- The laboratory's own limits of a board, beside those of its devices (Kind.antt of dev_core): one to eight memories,
-- of together at most 64 MiB,
abbrev pub most_memories : ℕ
most_memories = 8

abbrev pub most_memory : ℕ
most_memory = 64 * 1024 * 1024

-- one to four processors, which together do
abbrev pub most_processors : ℕ
most_processors = 4

-- 1 to 1000 instructions in a microsecond, each as many,
abbrev pub most_speed : ℕ
most_speed = 1000

-- and a timer of 1 to 1,000,000,000 ticks in a second.
abbrev pub most_frequency : ℕ
most_frequency = 1_000_000_000

-- Sources of an interrupt controller count from 1 to 127: they fill four words of 32 bits, in which bit 0 is none's
-- (RISC-V Platform-Level Interrupt Controller 1.0.0, section 5). It has 1 to 15 contexts.
abbrev pub most_sources : ℕ
most_sources = 127

abbrev pub most_contexts : ℕ
most_contexts = 15

-- Addresses and sizes of regions are whole words.
abbrev pub region_unit : ℕ
region_unit = 4

-- The last register of a CLINT is mtime, the eight bytes at 0xBFF8.
abbrev pub least_clint : ℕ
least_clint = 0xBFF8 + 8

-- The contexts of a PLIC lie 0x1000 bytes apart from 0x20_0000 on, and there is room for sixteen.
abbrev pub least_plic : ℕ
least_plic = 0x20_0000 + 16 * 0x1000

-- how many devices of a kind there are
abbrev pub count_of : List Kind → Kind → ℕ
count_of kinds kind = count_by (is_kind kind) kinds

-- of each kind there are no more than a board may have
abbrev pub are_few_of : List Kind → Kind → Bool
are_few_of kinds kind = nat_le (count_of kinds kind) (row_of kind).most

abbrev pub are_few_devices : List Kind → Bool
are_few_devices kinds = list_all (λ row. are_few_of kinds row.kind) rows

abbrev pub are_few_memories : List ℕ → Bool
are_few_memories memories =
    nat_le 1 (length memories) && nat_le (length memories) most_memories && nat_le (sum memories) most_memory

-- how many processors a board has
abbrev pub are_few_processors : List (List ℕ) → Bool
are_few_processors cpus = nat_le 1 (length cpus) && nat_le (length cpus) most_processors

-- the instructions in a microsecond of so many processors
abbrev pub is_speed : ℕ → ℕ → Bool
is_speed processors speed = nat_le 1 speed && nat_le speed most_speed && (speed % processors == 0)

-- ticks of the timer in a second, where there is a timer
abbrev pub is_frequency : Option ℕ → Bool
is_frequency None = true
is_frequency (Some ticks) = nat_le 1 ticks && nat_le ticks most_frequency

-- the sources and contexts of an interrupt controller, where there is one
abbrev pub is_plic_size : Option PlicSize → Bool
is_plic_size None = true
is_plic_size (Some size) =
    nat_le 1 size.sources && nat_le size.sources most_sources
    && nat_le 1 size.contexts && nat_le size.contexts most_contexts

-- the kind of the device that stands in a region, if a device does
abbrev pub device_in : List Kind → RegionKind → Option Kind
device_in kinds (Dev i) = slice_get kinds i
device_in kinds _ = None

-- the registers of a device lie as far apart as its kind allows, and those of all else side by side
abbrev pub is_step : Option Kind → ℕ → Bool
is_step (Some kind) step = is_step_of kind step
is_step None step = step == 1

abbrev pub are_steps : List Kind → List Region → Bool
are_steps kinds regions = list_all (λ region. is_step (device_in kinds region.kind) region.step) regions

-- the fewest bytes of a region; a memory has whole pages, and at least one
abbrev pub least_size_at : Option Kind → ℕ → ℕ
least_size_at None step = 0
least_size_at (Some kind) step = least_size_of kind step

abbrev pub least_size : List Kind → RegionKind → ℕ → ℕ
least_size kinds (Ram i) step = page_size
least_size kinds Clint step = least_clint
least_size kinds Plic step = least_plic
least_size kinds (Dev i) step = least_size_at (slice_get kinds i) step

-- what the size of a region is a multiple of
abbrev pub unit_of : RegionKind → ℕ
unit_of (Ram i) = page_size
unit_of _ = region_unit

-- a region may have this address and size
abbrev pub is_range : List Kind → Region → Bool
is_range kinds region =
    (region.base % region_unit == 0)
    && (region.size % unit_of region.kind == 0)
    && nat_le (least_size kinds region.kind region.step) region.size

abbrev pub are_ranges : List Kind → List Region → Bool
are_ranges kinds regions = list_all (is_range kinds) regions
