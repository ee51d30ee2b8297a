-- What is kept of the memory in which an access is sought first.
use Rattle.std.specs.Prelude.{◌≡◌, ℕ, ◌+◌, ◌<◌, List}
use Rattle.sys_bus.specs.declared.region.Region.{Region}
use Rattle.sys_bus.specs.declared.region.Target.TheVariants.{Ram}
use Rattle.sys_bus.specs.declared.near.NearMemory.{NearMemory}
use Rattle.sys_bus.specs.declared.near.MemoryPlace.{MemoryPlace}
use Rattle.sys_bus.specs.Region.{target_of, IsWidth}

-- an address lies so far in the memory
pub record IsNearPlace (near : NearMemory) (at : ℕ) (place : MemoryPlace) : Type 0 where
  pub part : place.part ≡ near.part
  pub address : near.base + place.at ≡ at
  pub starts : place.at < near.starts

-- each access from there on belongs to the memory
abbrev pub IsNear : List Region → NearMemory → Type 0
IsNear regions near =
    (i width : ℕ) → i < near.starts → IsWidth width → target_of regions (near.base + i) width ≡ Ram near.part i
