-- Bytes that are written piece by piece.
use Rattle.std.specs.Prelude.{◌≡◌, ℕ, ◌+◌, ◌<◌, ◌≤◌, List, length, take, false, Option, None, Some}
use Rattle.sys_bus.specs.declared.region.Target.TheVariants.{Ram}
use Rattle.board_space.specs.declared.space.memories.Room.{Room}
use Rattle.board_space.specs.Space.{Space, memory_at, target_at}
use Rattle.board_space.specs.Changes.{in_memory, copied}

-- some of the first of these bytes are written
abbrev pub CopiesPrefix : Space → Space → ℕ → List ℕ → Type 0
CopiesPrefix old new at bytes = (n : ℕ) × ((n ≤ length bytes) × (new ≡ copied old at (take n bytes)))

-- from an address to the end of its memory
pub record HasRoom (s : Space) (at : ℕ) (room : Room) : Type 0 where
  pub some : 0 < room.size
  pub part : room.part < length s.memories
  pub lies : room.at + room.size ≤ length (memory_at s room.part)
  pub bytes : (i : ℕ) → i < room.size → target_at s (at + i) 1 ≡ Ram room.part (room.at + i)

abbrev pub IsRoom : Space → ℕ → Option Room → Type 0
IsRoom s at None = in_memory s at ≡ false
IsRoom s at (Some room) = HasRoom s at room
