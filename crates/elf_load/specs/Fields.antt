-- The numbers of an ELF file, which are little-endian (System V ABI, chapter 4, "Data Representation").
use Rattle.std.specs.Prelude.{ℕ, List, drop}
use Rattle.byteorder.specs.Endian.{little_number}

-- an Elf32_Half at a place
unfoldable pub half : List ℕ → ℕ → ℕ
half bytes at = little_number 2 (drop at bytes)

-- an Elf32_Word, Elf32_Addr or Elf32_Off at a place
unfoldable pub word : List ℕ → ℕ → ℕ
word bytes at = little_number 4 (drop at bytes)
