-- The definitions computed on examples.
use Rattle.std.proofs.Common.{◌≡◌, ◌++◌, ℕ, List, [], ◌∷◌, refl, take, Ok, Err, Some, None}
use Rattle.std.specs.Prelude.{replicate}
use Rattle.elf_load.specs.declared.image.ElfFault.TheVariants.{Short, Machine}
use Rattle.elf_load.specs.declared.image.Part.{Part}
use Rattle.elf_load.specs.Fields.{half, word}
use Rattle.elf_load.specs.Image.{image_of}
use Rattle.elf_load.specs.Map.{byte_at}

-- the lowest byte stands first
lowest_first : word (0 ∷ 0x78 ∷ 0x56 ∷ 0x34 ∷ 0x12 ∷ []) 1 ≡ 0x12345678
unfolding word
lowest_first = refl

-- a header alone, for a machine, without program headers, whose entry is 0x80000000
unfoldable header_for : ℕ → List ℕ
header_for machine =
    0x7F ∷ 0x45 ∷ 0x4C ∷ 0x46 ∷ 1 ∷ 1 ∷ 1
    ∷ replicate 9 0 ++ (2 ∷ 0 ∷ machine ∷ 0 ∷ replicate 7 0 ++ (0x80 ∷ replicate 24 0))

no_part : image_of (header_for 243) ≡ Ok (record { entry = Some 0x80000000; parts = [] })
unfolding image_of half word header_for
no_part = refl

other_machine : image_of (header_for 62) ≡ Err Machine
unfolding image_of half word header_for
other_machine = refl

too_short : image_of (take 51 (header_for 243)) ≡ Err Short
unfolding image_of half word header_for
too_short = refl

-- two parts that share the address 5, and one zero
unfoldable first_part : Part
first_part = record { at = 4; bytes = 1 ∷ 2 ∷ []; zeros = 1 }

unfoldable second_part : Part
second_part = record { at = 5; bytes = 7 ∷ []; zeros = 0 }

the_later_counts : byte_at (first_part ∷ second_part ∷ []) 5 ≡ Some 7
unfolding first_part second_part
the_later_counts = refl

a_zero : byte_at (first_part ∷ second_part ∷ []) 6 ≡ Some 0
unfolding first_part second_part
a_zero = refl

no_byte : byte_at (first_part ∷ second_part ∷ []) 7 ≡ None
unfolding first_part second_part
no_byte = refl
