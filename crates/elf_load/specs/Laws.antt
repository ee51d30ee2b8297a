-- What holds of the parts of each accepted ELF file.
use Rattle.std.specs.Prelude.{◌≡◌, ℕ, ◌+◌, ◌^◌, ◌≤◌, List, ◌++◌, length}
use Rattle.elf_load.specs.declared.image.Part.{Part}

-- a part's bytes stand in the file, one after another
abbrev pub StandsIn : List ℕ → Part → Type 0
StandsIn file part = (front : List ℕ) × (back : List ℕ) × (file ≡ front ++ (part.bytes ++ back))

-- no byte and no zero of a part passes the end of the address space
abbrev pub EndsInMemory : Part → Type 0
EndsInMemory part = part.at + length part.bytes + part.zeros ≤ 2 ^ 32
