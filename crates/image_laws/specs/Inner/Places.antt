-- Where the bytes of memories stand.
use Rattle.std.specs.Prelude.{◌≡◌, ℕ, ◌<◌, length}
use Rattle.sys_bus.specs.declared.region.Target.TheVariants.{Ram}
use Rattle.board.specs.Space.{Space, memory_at, target_at}

-- no two addresses are of one byte of memory, and each memory has the bytes of its addresses
pub record StandApart (s : Space) : Type 0 where
  pub apart : (a b part at : ℕ) → target_at s a 1 ≡ Ram part at → target_at s b 1 ≡ Ram part at → a ≡ b
  pub part : (a part at : ℕ) → target_at s a 1 ≡ Ram part at → part < length s.memories
  pub held : (a part at : ℕ) → target_at s a 1 ≡ Ram part at → at < length (memory_at s part)
