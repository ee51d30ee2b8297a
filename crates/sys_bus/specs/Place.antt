-- Places in memories.
use Rattle.std.specs.Prelude.{◌≡◌, ℕ, List}
use Rattle.sys_bus.specs.declared.near.MemoryPlace.{MemoryPlace}
use Rattle.sys_bus.specs.declared.region.Region.{Region}
use Rattle.sys_bus.specs.declared.region.Target.TheVariants.{Ram}
use Rattle.sys_bus.specs.Region.{target_of, IsWithin, IsWidth}

-- each access at an address belongs to this place of a memory, and lies there whole
abbrev pub IsPlace : List Region → ℕ → MemoryPlace → Type 0
IsPlace regions at place =
    (width : ℕ) → IsWidth width →
    (target_of regions at width ≡ Ram place.part place.at) × IsWithin regions width (Ram place.part place.at)
