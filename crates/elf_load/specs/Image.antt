-- The image of an ELF file, or its first fault.
use Rattle.std.specs.Prelude.{◌≡◌, ℕ, ◌+◌, ◌*◌, ◌==◌, ◌&&◌, ◌||◌, not, nat_eq, nat_lt, Bool, if◌then◌else◌, List}
use Rattle.std.specs.Prelude.{[], ◌∷◌}
use Rattle.std.specs.Prelude.{length, map, Option, Some, None, Result, Ok, Err}
use Rattle.std.specs.List.{list_any, starts_with}
use Rattle.elf_load.specs.declared.image.Image.{Image}
use Rattle.elf_load.specs.declared.image.ElfFault.{ElfFault}
use Rattle.elf_load.specs.declared.image.ElfFault.TheVariants.{Short, NotElf, Class, Order, Machine, FileType}
use Rattle.elf_load.specs.declared.image.ElfFault.TheVariants.{Headers, Segment, Memory}
use Rattle.elf_load.specs.Header.{header_size, elf_magic, e_class, elfclass32, e_data, elfdata2lsb, e_type, et_exec}
use Rattle.elf_load.specs.Header.{e_machine, em_riscv, e_entry, e_phoff, e_phentsize, e_phnum}
use Rattle.elf_load.specs.Segment.{program_header_size, loaded, is_sound, part_of}

-- there are program headers, and they are of another size or pass the end of the file
abbrev pub has_wrong_headers : List ℕ → Bool
has_wrong_headers file =
    nat_lt 0 (e_phnum file)
    && (not (e_phentsize file == program_header_size)
    || nat_lt (length file) (e_phoff file + e_phnum file * program_header_size))

-- whether a segment that is loaded is not sound
abbrev pub has_wrong_segment : List ℕ → Bool
has_wrong_segment file = list_any (λ header. not (is_sound file header)) (loaded file)

-- the fault of the first test that holds
abbrev pub first_of : List (Bool × ElfFault) → Option ElfFault
first_of [] = None
first_of (test ∷ later) = if test.0 then Some test.1 else first_of later

-- the tests of a file, in their order
abbrev pub tests : List ℕ → List (Bool × ElfFault)
tests file =
    (nat_lt (length file) header_size, Short)
    ∷ (not (starts_with nat_eq file elf_magic), NotElf)
    ∷ (not (e_class file == elfclass32), Class)
    ∷ (not (e_data file == elfdata2lsb), Order)
    ∷ (not (e_machine file == em_riscv), Machine)
    ∷ (not (e_type file == et_exec), FileType)
    ∷ (has_wrong_headers file, Headers)
    ∷ (has_wrong_segment file, Segment)
    ∷ []

-- an image, where there is no fault
abbrev pub unless : Option ElfFault → Image → Result Image ElfFault
unless None image = Ok image
unless (Some fault) image = Err fault

-- what a file without fault gives: a part for each segment that is loaded, in the order of their headers
abbrev pub sound_image : List ℕ → Image
sound_image file = record { entry = Some (e_entry file); parts = map (part_of file) (loaded file) }

-- the image of a file, or its first fault
unfoldable pub image_of : List ℕ → Result Image ElfFault
image_of file = unless (first_of (tests file)) (sound_image file)

-- a file is read as it is defined, unless memory ran out
abbrev pub IsReadAs : Result Image ElfFault → Result Image ElfFault → Type 0
IsReadAs meant (Ok image) = meant ≡ Ok image
IsReadAs meant (Err Memory) = Unit {0}
IsReadAs meant (Err fault) = meant ≡ Err fault
