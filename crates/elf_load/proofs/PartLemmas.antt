-- Program headers read one by one.
use Rattle.std.proofs.Common.{◌≡◌, ◌∷◌, ◌∙◌, ◌+◌, ◌-◌, ◌<◌, ℕ, suc, List, map, if◌then◌else◌, Bool, true, false}
use Rattle.std.proofs.Common.{Result, Ok, Err, Option, Some, None, refl, ap, sym, Vec, Global, append_assoc, arith}
use Rattle.std.specs.List.{range_with_len}
use Rattle.elf_load.specs.declared.image.ElfFault.{ElfFault}
use Rattle.elf_load.specs.declared.image.ElfFault.TheVariants.{Short, NotElf, Class, Order, Machine, FileType}
use Rattle.elf_load.specs.declared.image.ElfFault.TheVariants.{Headers, Segment, Memory}
use Rattle.elf_load.specs.declared.image.Part.{Part}
use Rattle.elf_load.specs.Segment.{program_header, is_loaded, is_sound, part_of, loaded}
use Rattle.elf_load.specs.Image.{sound_image, image_of, first_of, tests, unless, has_wrong_segment, IsReadAs}
use Rattle.elf_load.specs.Inner.Parts.{Gives, part_told, parts_told, told_from, told_behind}

from_more : (n count : ℕ) → n < count → range_with_len n (count - n) ≡ n ∷ range_with_len (n + 1) (count - (n + 1))
from_more n count more = let e : count - n ≡ suc (count - (n + 1)) = omega arith in rw e refl

-- one header, by whether its segment is loaded and sound
by_header :
    (file : List ℕ) (parts : List Part) (n count : ℕ) (loaded sound : Bool) →
    is_loaded (program_header file n) ≡ loaded → is_sound file (program_header file n) ≡ sound → n < count →
    told_from file parts n count ≡ told_behind file parts n count (part_told file (program_header file n))
by_header file parts n count false sound nope is more = rw (from_more n count more, nope) refl
by_header file parts n count true false load is more = rw (from_more n count more, load, is) refl
by_header file parts n count true true load is more = rw (from_more n count more, load, is, append_assoc) refl

pub one_more :
    (file : List ℕ) (parts : List Part) (n count : ℕ) (header : List ℕ) (told : Result (Option Part) ElfFault) →
    n < count → header ≡ program_header file n → part_told file header ≡ told →
    told_from file parts n count ≡ told_behind file parts n count told
one_more file parts n count header told more same is = rw (← is, same) (by_header file parts n count _ _ refl refl more)

-- a fault of a header is the fault of the file, if it is not want of memory
pub part_fault :
    (file : List ℕ) (parts : List Part) (n count : ℕ) (header : List ℕ) (fault : ElfFault)
    (meant : Result (List Part) ElfFault) → n < count → header ≡ program_header file n →
    Gives {X = Option Part} (λ part. part) (part_told file header) (Err fault) →
    told_from file parts n count ≡ meant → Gives {X = Vec Part Global} (λ parts. parts.items) meant (Err fault)
part_fault file parts n count header Short meant more same is all =
    sym all ∙ one_more file parts n count _ _ more same is
part_fault file parts n count header NotElf meant more same is all =
    sym all ∙ one_more file parts n count _ _ more same is
part_fault file parts n count header Class meant more same is all =
    sym all ∙ one_more file parts n count _ _ more same is
part_fault file parts n count header Order meant more same is all =
    sym all ∙ one_more file parts n count _ _ more same is
part_fault file parts n count header Machine meant more same is all =
    sym all ∙ one_more file parts n count _ _ more same is
part_fault file parts n count header FileType meant more same is all =
    sym all ∙ one_more file parts n count _ _ more same is
part_fault file parts n count header Headers meant more same is all =
    sym all ∙ one_more file parts n count _ _ more same is
part_fault file parts n count header Segment meant more same is all =
    sym all ∙ one_more file parts n count _ _ more same is
part_fault file parts n count header Memory meant more same is all = tt

segments_fault :
    (file : List ℕ) (fault : ElfFault) (wrong : Bool) → has_wrong_segment file ≡ wrong →
    first_of (tests file) ≡ (if has_wrong_segment file then Some Segment else None) →
    parts_told file ≡ Err fault → image_of file ≡ Err fault
unfolding image_of
segments_fault file fault true is rest told =
    let refused : first_of (tests file) ≡ Some Segment = rest ∙ rw is refl in
    let same : Err Segment ≡ Err fault = rw is at told in
    let all : image_of file ≡ Err Segment = ap (λ found. unless found (sound_image file)) refused in
    let which : Segment ≡ fault = cc in
    all ∙ ap Err which
segments_fault file fault false is rest told =
    let never : Ok (map (part_of file) (loaded file)) ≡ Err fault = rw is at told in absurd (cc)

-- the fault of the segments is the fault of the file, if it is not want of memory
pub parts_fault :
    (file : List ℕ) (fault : ElfFault) →
    first_of (tests file) ≡ (if has_wrong_segment file then Some Segment else None) →
    Gives {X = Vec Part Global} (λ parts. parts.items) (parts_told file) (Err fault) →
    IsReadAs (image_of file) (Err fault)
parts_fault file Short rest told = segments_fault file Short _ refl rest told
parts_fault file NotElf rest told = segments_fault file NotElf _ refl rest told
parts_fault file Class rest told = segments_fault file Class _ refl rest told
parts_fault file Order rest told = segments_fault file Order _ refl rest told
parts_fault file Machine rest told = segments_fault file Machine _ refl rest told
parts_fault file FileType rest told = segments_fault file FileType _ refl rest told
parts_fault file Headers rest told = segments_fault file Headers _ refl rest told
parts_fault file Segment rest told = segments_fault file Segment _ refl rest told
parts_fault file Memory rest told = tt
