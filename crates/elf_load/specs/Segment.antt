-- Program headers and what they say of segments (System V ABI, chapter 5, "Program Header"): what is read of
-- Elf32_Phdr.
use Rattle.std.specs.Prelude.{ℕ, ◌+◌, ◌*◌, ◌-◌, ◌^◌, ◌==◌, ◌&&◌, Bool, nat_le, List, length, map, take, drop}
use Rattle.std.specs.List.{filter, range_with_len}
use Rattle.elf_load.specs.declared.image.Part.{Part}
use Rattle.elf_load.specs.Fields.{word}
use Rattle.elf_load.specs.Header.{e_phoff, e_phnum}

-- the bytes of a program header
abbrev pub program_header_size : ℕ
program_header_size = 32

-- the bytes of the program header with a number, from 0 on
abbrev pub program_header : List ℕ → ℕ → List ℕ
program_header file n = take program_header_size (drop (e_phoff file + n * program_header_size) file)

abbrev pub program_headers : List ℕ → List (List ℕ)
program_headers file = map (program_header file) (range_with_len 0 (e_phnum file))

abbrev pub p_type : List ℕ → ℕ
p_type header = word header 0

-- where the segment's bytes stand in the file
abbrev pub p_offset : List ℕ → ℕ
p_offset header = word header 4

-- its physical address
abbrev pub p_paddr : List ℕ → ℕ
p_paddr header = word header 12

-- how many bytes it has in the file, and how many in memory
abbrev pub p_filesz : List ℕ → ℕ
p_filesz header = word header 16

abbrev pub p_memsz : List ℕ → ℕ
p_memsz header = word header 20

-- a segment that is loaded has the type PT_LOAD
abbrev pub is_loaded : List ℕ → Bool
is_loaded header = p_type header == 1

-- the headers of the segments that are loaded, in their order
abbrev pub loaded : List ℕ → List (List ℕ)
loaded file = filter is_loaded (program_headers file)

-- the segment's bytes stand in the file, are no more than it has in memory, and end in the address space
abbrev pub is_sound : List ℕ → List ℕ → Bool
is_sound file header =
    nat_le (p_offset header + p_filesz header) (length file) && nat_le (p_filesz header) (p_memsz header)
    && nat_le (p_paddr header + p_memsz header) (2 ^ 32)

-- the bytes of a segment, with zeros for what it has in memory alone
abbrev pub part_of : List ℕ → List ℕ → Part
part_of file header = record {
  at = p_paddr header;
  bytes = take (p_filesz header) (drop (p_offset header) file);
  zeros = p_memsz header - p_filesz header;
}
