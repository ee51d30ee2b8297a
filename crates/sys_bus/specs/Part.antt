-- The parts of a board: memories and devices by number, at most one timer, and at most one interrupt controller.
use Rattle.std.specs.Prelude.{ℕ, ◌==◌, nat_lt, nat_le, Bool, true, false, ◌&&◌, List, count_by, slice_index}
use Rattle.std.specs.List.{list_all, list_any, range_with_len}
use Rattle.sys_bus.specs.declared.region.RegionKind.{RegionKind}
use Rattle.sys_bus.specs.declared.region.RegionKind.TheVariants.{Ram, Clint, Plic, Dev}
use Rattle.sys_bus.specs.declared.region.Region.{Region}
use Rattle.sys_bus.specs.declared.plan.NamedWhat.{NamedWhat}
use Rattle.sys_bus.specs.declared.plan.NamedWhat.TheVariants.{Cpu, Part}
use Rattle.sys_bus.specs.declared.plan.Named.{Named}
use Rattle.sys_bus.specs.Region.{same_part}

-- the name is that of the part
abbrev pub stands_for : RegionKind → NamedWhat → Bool
stands_for part Cpu = false
stands_for part (Part kind) = same_part kind part

-- how many names and regions a part has
abbrev pub names_of : List Named → RegionKind → ℕ
names_of names part = count_by (λ n. stands_for part n.what) names

abbrev pub regions_of : List Region → RegionKind → ℕ
regions_of regions part = count_by (λ region. same_part region.kind part) regions

abbrev pub has_one_each : List Named → List Region → RegionKind → Bool
has_one_each names regions part = (names_of names part == 1) && (regions_of regions part == 1)

-- a timer or an interrupt controller, of which there may be none
abbrev pub has_at_most_one_each : List Named → List Region → RegionKind → Bool
has_at_most_one_each names regions part =
    nat_le (regions_of regions part) 1 && (names_of names part == regions_of regions part)

-- each of so many memories and devices, the timer and the interrupt controller have one name and one region
abbrev pub has_parts : List Named → List Region → ℕ → ℕ → Bool
has_parts names regions memories devices =
    list_all (λ i. has_one_each names regions (Ram i)) (range_with_len 0 memories)
    && list_all (λ i. has_one_each names regions (Dev i)) (range_with_len 0 devices)
    && has_at_most_one_each names regions Clint
    && has_at_most_one_each names regions Plic

-- a part of a board with so many memories and devices
abbrev pub is_part : ℕ → ℕ → RegionKind → Bool
is_part memories devices (Ram i) = nat_lt i memories
is_part memories devices (Dev i) = nat_lt i devices
is_part memories devices Clint = true
is_part memories devices Plic = true

abbrev pub names_part : ℕ → ℕ → NamedWhat → Bool
names_part memories devices Cpu = true
names_part memories devices (Part kind) = is_part memories devices kind

abbrev pub all_name_parts : ℕ → ℕ → List Named → Bool
all_name_parts memories devices names = list_all (λ n. names_part memories devices n.what) names

abbrev pub all_hold_parts : ℕ → ℕ → List Region → Bool
all_hold_parts memories devices regions = list_all (λ region. is_part memories devices region.kind) regions

-- there is no further name or region
abbrev pub has_no_others : List Named → List Region → ℕ → ℕ → Bool
has_no_others names regions memories devices =
    all_name_parts memories devices names && all_hold_parts memories devices regions

-- a region of the part is there
abbrev pub has_region : List Region → RegionKind → Bool
has_region regions part = list_any (λ region. same_part region.kind part) regions

-- a memory's region has the size of the memory
abbrev pub has_memory_size : List ℕ → RegionKind → ℕ → Bool
has_memory_size memories (Ram i) size = size == slice_index memories i
has_memory_size memories _ size = true

abbrev pub have_memory_sizes : List ℕ → List Region → Bool
have_memory_sizes memories regions = list_all (λ region. has_memory_size memories region.kind region.size) regions
