-- Bytes that commands put into memories.
use Rattle.std.proofs.Common.{◌≡◌, ℕ, refl}
use Rattle.std.proofs.Math.Nat.{div-div-eq-div-mul}
use Rattle.std.specs.Int.{w32, to_le_bytes}
use Rattle.page_ram.specs.LittleEndian.{little_endian}

pub four_bytes : (n : ℕ) → to_le_bytes w32 n ≡ little_endian 4 n
four_bytes n = rw (div-div-eq-div-mul n 256 256, div-div-eq-div-mul n 65536 256) refl
