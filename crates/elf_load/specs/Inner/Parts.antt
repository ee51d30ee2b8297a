-- The parts of a file as they are read one by one.
use Rattle.std.specs.Prelude.{◌≡◌, ℕ, ◌+◌, ◌-◌, ◌++◌, ◌∷◌, [], not, if◌then◌else◌, List, map, Option, Some, None}
use Rattle.std.specs.Prelude.{Result, Ok, Err}
use Rattle.std.specs.List.{filter, list_any, range_with_len}
use Rattle.elf_load.specs.declared.image.ElfFault.{ElfFault}
use Rattle.elf_load.specs.declared.image.ElfFault.TheVariants.{Segment, Memory}
use Rattle.elf_load.specs.declared.image.Part.{Part}
use Rattle.elf_load.specs.Segment.{program_header, is_loaded, is_sound, loaded, part_of}
use Rattle.elf_load.specs.Image.{has_wrong_segment}

-- what was returned, seen by view, is what a definition says, unless memory ran out
abbrev pub Gives : {X Y : Type 0} → (X → Y) → Result Y ElfFault → Result X ElfFault → Type 0
Gives view meant (Ok x) = meant ≡ Ok (view x)
Gives view meant (Err Memory) = Unit {0}
Gives view meant (Err fault) = meant ≡ Err fault

-- the part of one header, if its segment is loaded
abbrev pub part_told : List ℕ → List ℕ → Result (Option Part) ElfFault
part_told file header =
    if not (is_loaded header) then Ok None
    else if not (is_sound file header) then Err Segment
    else Ok (Some (part_of file header))

-- the parts of all headers, where each segment is sound
abbrev pub parts_told : List ℕ → Result (List Part) ElfFault
parts_told file = if has_wrong_segment file then Err Segment else Ok (map (part_of file) (loaded file))

-- the headers of segments that are loaded among so many from one on
abbrev pub loaded_from : List ℕ → ℕ → ℕ → List (List ℕ)
loaded_from file n count = filter is_loaded (map (program_header file) (range_with_len n count))

-- what is told of a file, where these parts were read and the headers from one on are still to come
abbrev pub told_from : List ℕ → List Part → ℕ → ℕ → Result (List Part) ElfFault
told_from file parts n count =
    if list_any (λ header. not (is_sound file header)) (loaded_from file n (count - n)) then Err Segment
    else Ok (parts ++ map (part_of file) (loaded_from file n (count - n)))

-- the same, by what the header with a number says
abbrev pub told_behind : List ℕ → List Part → ℕ → ℕ → Result (Option Part) ElfFault → Result (List Part) ElfFault
told_behind file parts n count (Ok None) = told_from file parts (n + 1) count
told_behind file parts n count (Ok (Some part)) = told_from file (parts ++ part ∷ []) (n + 1) count
told_behind file parts n count (Err fault) = Err fault
