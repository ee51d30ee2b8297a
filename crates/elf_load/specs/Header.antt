-- The header of an ELF file (System V ABI, chapter 4, "ELF Header"): what is read of Elf32_Ehdr.
use Rattle.std.specs.Prelude.{ℕ, List, [], ◌∷◌, slice_index}
use Rattle.elf_load.specs.Fields.{half, word}

-- the bytes of a header
abbrev pub header_size : ℕ
header_size = 52

-- e_ident: the magic number
abbrev pub elf_magic : List ℕ
elf_magic = 0x7F ∷ 0x45 ∷ 0x4C ∷ 0x46 ∷ []

-- e_ident: the class, which is ELFCLASS32, and the data encoding, which is ELFDATA2LSB
abbrev pub e_class : List ℕ → ℕ
e_class file = slice_index file 4

abbrev pub elfclass32 : ℕ
elfclass32 = 1

abbrev pub e_data : List ℕ → ℕ
e_data file = slice_index file 5

abbrev pub elfdata2lsb : ℕ
elfdata2lsb = 1

-- the type, which is ET_EXEC, and the machine, which is EM_RISCV (RISC-V ELF psABI, "File Header")
abbrev pub e_type : List ℕ → ℕ
e_type file = half file 16

abbrev pub et_exec : ℕ
et_exec = 2

abbrev pub e_machine : List ℕ → ℕ
e_machine file = half file 18

abbrev pub em_riscv : ℕ
em_riscv = 243

-- where execution begins
abbrev pub e_entry : List ℕ → ℕ
e_entry file = word file 24

-- where the program headers stand in the file, the size of each, and their count
abbrev pub e_phoff : List ℕ → ℕ
e_phoff file = word file 28

abbrev pub e_phentsize : List ℕ → ℕ
e_phentsize file = half file 42

abbrev pub e_phnum : List ℕ → ℕ
e_phnum file = half file 44
