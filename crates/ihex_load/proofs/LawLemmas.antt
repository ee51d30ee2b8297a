-- Lines after the end, and addresses that wrap.
use Rattle.std.proofs.Common.{◌≡◌, ◌∷◌, ◌++◌, ◌∙◌, ◌+◌, ◌-◌, ◌%◌, ◌<◌, ◌≤◌, ℕ, List, [], length, Ok, Some, refl, ap}
use Rattle.std.proofs.Common.{slice_index, take, drop, append-nil, nat_le, nat_lt, inl, inr, ◌⊎◌, Bool, true, false}
use Rattle.std.proofs.Common.{None, arith}
use Rattle.std.proofs.Math.Nat.{mod-eq_of_lt}
use Rattle.std.proofs.lemmas.Bool.{leb-true, leb-false, le-ltb, cases_lt}
use Rattle.std.proofs.lemmas.List.{length-take, length-drop, get_or-take, get_or-drop}
use Rattle.std.proofs.lemmas.Option.{slice_get-get_or, slice_get_past}
use Rattle.elf_load.specs.Map.{byte_in, byte_at}
use Rattle.ihex_load.specs.declared.record.Record.TheVariants.{EndOfFile}
use Rattle.ihex_load.specs.Record.{line_of}
use Rattle.ihex_load.specs.Image.{part, records, placed, image_of, space_size}
use Rattle.ihex_load.specs.Laws.{AgreeToTheEnd}

ended : (before after others : List (List ℕ)) (end : List ℕ) → line_of end ≡ Ok EndOfFile →
    records (before ++ end ∷ after) ≡ records (before ++ end ∷ others)
ended [] after others end is = rw is refl
ended (line ∷ before) after others end is = rw (ended before after others end is) refl

pub same_image : (file other : List ℕ) → AgreeToTheEnd file other → image_of file ≡ image_of other
unfolding image_of
same_image file other (before, end, after, others, is, lines_file, lines_other) =
    rw (lines_file, lines_other, ended before after others end is) refl

-- the bytes of a part without zeros, and the addresses before and after it
byte_here : (at i place : ℕ) (bytes : List ℕ) → place ≡ at + i → i < length bytes →
    byte_in (part at bytes) place ≡ Some (slice_index bytes i)
byte_here at i place bytes is within =
    let offset : place - at ≡ i = omega arith in
    let from : nat_lt place at ≡ false = le-ltb place at (omega arith) in
    rw (from, append-nil, offset) (slice_get-get_or bytes i 0 within)

byte_past : (at place : ℕ) (bytes : List ℕ) → at ≤ place → length bytes ≤ place - at →
    byte_in (part at bytes) place ≡ None
byte_past at place bytes from past =
    rw (le-ltb place at from, append-nil) (slice_get_past bytes (place - at) past)

-- one part
wraps_whole : (at i place : ℕ) (bytes : List ℕ) → place ≡ (at + i) % space_size →
    length bytes ≤ space_size - at → at < space_size → i < length bytes →
    byte_at (part at bytes ∷ []) place ≡ Some (slice_index bytes i)
wraps_whole at i place bytes is whole inside within =
    let same : place ≡ at + i = is ∙ mod-eq_of_lt (omega arith) in byte_here at i place bytes same within

-- two parts, of which the second begins at 0
wraps_front : (at i place room : ℕ) (bytes : List ℕ) → place ≡ at + i → room ≡ space_size - at → i < room →
    at < space_size → room < length bytes → length bytes ≤ space_size →
    byte_at (part at (take room bytes) ∷ part 0 (drop room bytes) ∷ []) place ≡ Some (slice_index bytes i)
wraps_front at i place room bytes is size front inside parted few =
    rw (
      byte_past 0 place (drop room bytes) (omega arith) (simp length-drop (omega arith)),
      byte_here at i place (take room bytes) is (simp length-take (omega arith)),
    )
    (ap Some (get_or-take room bytes i 0 front))

wraps_back : (at i place room : ℕ) (bytes : List ℕ) → place ≡ i - room → room ≡ space_size - at → room ≤ i →
    i < length bytes →
    byte_at (part at (take room bytes) ∷ part 0 (drop room bytes) ∷ []) place ≡ Some (slice_index bytes i)
wraps_back at i place room bytes is size back within =
    let whole : room + (i - room) ≡ i = omega arith in
    rw (byte_here 0 (i - room) place (drop room bytes) (omega arith) (simp length-drop (omega arith)))
    (ap Some (get_or-drop room bytes (i - room) 0 ∙ ap (λ n. slice_index bytes n) whole))

wraps_parted : (at i : ℕ) (bytes : List ℕ) → space_size - at < length bytes →
    at < space_size → i < length bytes → length bytes ≤ space_size → (i < space_size - at) ⊎ (space_size - at ≤ i) →
    byte_at (part at (take (space_size - at) bytes) ∷ part 0 (drop (space_size - at) bytes) ∷ [])
    ((at + i) % space_size)
    ≡ Some (slice_index bytes i)
wraps_parted at i bytes parted inside within few (inl front) =
    wraps_front at i _ _ bytes (mod-eq_of_lt (omega arith)) refl front inside parted few
wraps_parted at i bytes parted inside within few (inr back) =
    wraps_back at i _ _ bytes (omega arith) refl back within

wraps_by : (at i : ℕ) (bytes : List ℕ) (whole : Bool) → nat_le (length bytes) (space_size - at) ≡ whole →
    at < space_size → i < length bytes → length bytes ≤ space_size →
    byte_at (placed at bytes) ((at + i) % space_size) ≡ Some (slice_index bytes i)
wraps_by at i bytes true is inside within few =
    rw is (wraps_whole at i _ bytes refl (leb-true _ _ is) inside within)
wraps_by at i bytes false is inside within few =
    rw is (wraps_parted at i bytes (leb-false _ _ is) inside within few (cases_lt i (space_size - at)))

pub wraps : (at i : ℕ) (bytes : List ℕ) → at < space_size → i < length bytes → length bytes ≤ space_size →
    byte_at (placed at bytes) ((at + i) % space_size) ≡ Some (slice_index bytes i)
wraps at i bytes inside within few = wraps_by at i bytes _ refl inside within few
