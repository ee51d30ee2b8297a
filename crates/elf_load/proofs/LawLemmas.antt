-- What holds of each accepted file.
use Rattle.std.proofs.Common.{◌≡◌, ◌∷◌, ◌++◌, ◌+◌, ◌^◌, ◌≤◌, ℕ, List, [], map, length, take, drop, Bool, ◌&&◌, true}
use Rattle.std.proofs.Common.{false, not, nat_le}
use Rattle.std.proofs.Common.{Ok, Option, Some, None, refl, ap, sym, arith}
use Rattle.std.specs.List.{list_any, All, AllByRecursion}
use Rattle.std.proofs.lemmas.Bool.{and_parts, or_parts, leb-true, not-false}
use Rattle.std.proofs.lemmas.List.{take-append-drop, length-take, length-drop}
use Rattle.std.proofs.lemmas.List.Elements.{All-from_recursion}
use Rattle.elf_load.specs.declared.image.ElfFault.{ElfFault}
use Rattle.elf_load.specs.declared.image.Image.{Image}
use Rattle.elf_load.specs.declared.image.Part.{Part}
use Rattle.elf_load.specs.Segment.{p_offset, p_paddr, p_filesz, p_memsz, is_sound, part_of, loaded}
use Rattle.elf_load.specs.Image.{image_of, first_of, tests, unless, has_wrong_segment}
use Rattle.elf_load.specs.Laws.{StandsIn, EndsInMemory}
use Rattle.elf_load.specs.Map.{byte_in, byte_at}

all_false : (ts : List (Bool × ElfFault)) → first_of ts ≡ None → AllByRecursion (λ t. t.0 ≡ false) ts
all_false [] none = tt
all_false ((true, fault) ∷ later) none = absurd (cc)
all_false ((false, fault) ∷ later) none = (refl, all_false later none)

not_refused : (fault : Option ElfFault) (given image : Image) → unless fault given ≡ Ok image →
    (fault ≡ None) × (given ≡ image)
not_refused None given image is = (refl, cc)
not_refused (Some fault) given image is = absurd (cc)

-- an accepted file has sound segments, which are its parts
accepted : (file : List ℕ) (image : Image) → image_of file ≡ Ok image →
    (has_wrong_segment file ≡ false) × (map (part_of file) (loaded file) ≡ image.parts)
unfolding image_of
accepted file image is =
    let both = not_refused _ _ image is in
    let none = all_false (tests file) both.0 in
    (none.1.1.1.1.1.1.1.0, ap (λ (i : Image). i.parts) both.1)

sound_facts : (file header : List ℕ) → is_sound file header ≡ true →
    (p_offset header + p_filesz header ≤ length file) × (p_filesz header ≤ p_memsz header)
    × (p_paddr header + p_memsz header ≤ 2 ^ 32)
sound_facts file header is =
    let in_file = nat_le (p_offset header + p_filesz header) (length file) in
    let in_memory = nat_le (p_filesz header) (p_memsz header) in
    let in_space = nat_le (p_paddr header + p_memsz header) (2 ^ 32) in
    let both = and_parts (in_file && in_memory) in_space is in
    let first = and_parts in_file in_memory both.0 in
    (leb-true _ _ first.0, leb-true _ _ first.1, leb-true _ _ both.1)

sound_stands : (file header : List ℕ) → is_sound file header ≡ true → StandsIn file (part_of file header)
sound_stands file header is = (
  take (p_offset header) file,
  drop (p_filesz header) (drop (p_offset header) file),
  rw (take-append-drop (p_filesz header) (drop (p_offset header) file), take-append-drop) refl,
)

sound_ends : (file header : List ℕ) → is_sound file header ≡ true → EndsInMemory (part_of file header)
sound_ends file header is =
    let facts = sound_facts file header is in
    simp (length-take, length-drop) (omega arith)

all_sound : (P : Part → Type 0) (file : List ℕ) (headers : List (List ℕ)) →
    ((header : List ℕ) → is_sound file header ≡ true → P (part_of file header)) →
    list_any (λ header. not (is_sound file header)) headers ≡ false →
    AllByRecursion P (map (part_of file) headers)
all_sound P file [] each none = tt
all_sound P file (header ∷ headers) each none =
    let both = or_parts _ _ none in (each header (not-false _ both.0), all_sound P file headers each both.1)

of_accepted : (P : Part → Type 0) (file : List ℕ) (image : Image) → image_of file ≡ Ok image →
    ((header : List ℕ) → is_sound file header ≡ true → P (part_of file header)) → All P image.parts
of_accepted P file image is each =
    let known = accepted file image is in
    rw (sym known.1) (All-from_recursion P _ (all_sound P file (loaded file) each known.0))

pub parts_stand : (file : List ℕ) (image : Image) → image_of file ≡ Ok image → All (StandsIn file) image.parts
parts_stand file image is = of_accepted (StandsIn file) file image is (sound_stands file)

pub parts_end : (file : List ℕ) (image : Image) → image_of file ≡ Ok image → All EndsInMemory image.parts
parts_end file image is = of_accepted EndsInMemory file image is (sound_ends file)

pub byte_within : (parts : List Part) (part : Part) (address byte : ℕ) → byte_in part address ≡ Some byte →
    byte_at (parts ++ part ∷ []) address ≡ Some byte
byte_within [] part address byte is = is
byte_within (first ∷ parts) part address byte is = rw (byte_within parts part address byte is) refl

pub byte_outside : (parts : List Part) (part : Part) (address : ℕ) → byte_in part address ≡ None →
    byte_at (parts ++ part ∷ []) address ≡ byte_at parts address
byte_outside [] part address is = is
byte_outside (first ∷ parts) part address is = rw (byte_outside parts part address is) refl
