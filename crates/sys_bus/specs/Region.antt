-- Regions of addresses, and which one an access belongs to.
use Rattle.std.specs.Prelude.{◌≡◌, ℕ, ◌+◌, ◌-◌, ◌^◌, ◌==◌, ◌<◌, ◌≤◌, ◌⊎◌, nat_lt, nat_le, min, max, Bool, true, false}
use Rattle.std.specs.Prelude.{◌&&◌, List, find, count_by, Any, Option, None, Some}
use Rattle.std.specs.List.{list_all}
use Rattle.sys_bus.specs.declared.region.RegionKind.{RegionKind}
use Rattle.sys_bus.specs.declared.region.RegionKind.TheVariants.{Ram, Clint, Plic, Dev}
use Rattle.sys_bus.specs.declared.region.Region.{Region}
use Rattle.sys_bus.specs.declared.region.Target.{Target}
use Rattle.sys_bus.specs.declared.region.Target.TheVariants.{Nothing}
use Rattle.sys_bus.specs.declared.region.Target.TheVariants as to

-- the same memory, timer, interrupt controller or device
abbrev pub same_part : RegionKind → RegionKind → Bool
same_part (Ram i) (Ram j) = i == j
same_part (Dev i) (Dev j) = i == j
same_part Clint Clint = true
same_part Plic Plic = true
same_part _ _ = false

-- the address after the last byte
abbrev pub end_of : Region → ℕ
end_of region = region.base + region.size

-- the region holds so many bytes from an address on
abbrev pub holds : ℕ → ℕ → Region → Bool
holds at width region = nat_le region.base at && nat_le (at + width) (end_of region)

-- the region has a byte at an address
abbrev pub HasByte : Region → ℕ → Type 0
HasByte region at = (region.base ≤ at) × (at < end_of region)

-- a byte lies in both
abbrev pub overlaps : Region → Region → Bool
overlaps a b = nat_lt (max a.base b.base) (min (end_of a) (end_of b))

-- no byte lies in two regions: each overlaps at most one of them, itself
abbrev pub count_of_overlaps : List Region → Region → ℕ
count_of_overlaps regions region = count_by (overlaps region) regions

abbrev pub are_apart : List Region → Bool
are_apart regions = list_all (λ region. nat_le (count_of_overlaps regions region) 1) regions

-- all bytes have addresses of 32 bits
abbrev pub are_addressed : List Region → Bool
are_addressed regions = list_all (λ region. nat_le (end_of region) (2 ^ 32)) regions

-- what an access at an address in a region belongs to
abbrev pub target_by : ℕ → RegionKind → Target
target_by offset (Ram part) = to.Ram part offset
target_by offset Clint = to.Clint offset
target_by offset Plic = to.Plic offset
target_by offset (Dev dev) = to.Dev dev offset

abbrev pub target : ℕ → Region → Target
target at region = target_by (at - region.base) region.kind

abbrev pub target_if : ℕ → Option Region → Target
target_if at None = Nothing
target_if at (Some region) = target at region

-- What so many bytes from an address on belong to: the region that holds them all, if there is one. In regions of which
-- no byte lies in two there is at most one.
abbrev pub target_of : List Region → ℕ → ℕ → Target
target_of regions at width = target_if at (find (holds at width) regions)

-- how many bytes lie from an address to the end of the region that holds it, and 0 where none does
abbrev pub room_if : ℕ → Option Region → ℕ
room_if at None = 0
room_if at (Some region) = end_of region - at

abbrev pub room_of : List Region → ℕ → ℕ
room_of regions at = room_if at (find (holds at 1) regions)

-- a target so many bytes further on
abbrev pub further : ℕ → Target → Target
further i (to.Ram part at) = to.Ram part (at + i)
further i (to.Clint at) = to.Clint (at + i)
further i (to.Plic at) = to.Plic (at + i)
further i (to.Dev dev at) = to.Dev dev (at + i)
further i Nothing = Nothing

-- how many bytes lie from one register of a device to the next: the step of its region
abbrev pub step_if : Option Region → ℕ
step_if None = 1
step_if (Some region) = region.step

abbrev pub step_of : List Region → ℕ → ℕ
step_of regions dev = step_if (find (λ region. same_part region.kind (Dev dev)) regions)

-- a target lies in a region with so many bytes from it on
abbrev pub LiesIn : List Region → ℕ → RegionKind → ℕ → Type 0
LiesIn regions width kind at = Any (λ region. (region.kind ≡ kind) × (at + width ≤ region.size)) regions

abbrev pub IsWithin : List Region → ℕ → Target → Type 0
IsWithin regions width (to.Ram part at) = LiesIn regions width (Ram part) at
IsWithin regions width (to.Clint at) = LiesIn regions width Clint at
IsWithin regions width (to.Plic at) = LiesIn regions width Plic at
IsWithin regions width (to.Dev dev at) = LiesIn regions width (Dev dev) at
IsWithin regions width Nothing = Unit {0}

-- the widths in bytes of loads and stores (RISC-V Unprivileged ISA 20191213, section 2.6)
abbrev pub IsWidth : ℕ → Type 0
IsWidth width = (width ≡ 1) ⊎ (width ≡ 2) ⊎ (width ≡ 4)
