-- To load the parts of an image is to load their map.
use Rattle.std.proofs.Common.{◌≡◌, ◌∙◌, ℕ, zero, suc, ◌+◌, ◌-◌, ◌^◌, ◌<◌, ◌==◌, ◌&&◌}
use Rattle.std.proofs.Common.{nat_lt, nat_le, Bool, true, false, cond}
use Rattle.std.proofs.Common.{List, [], ◌∷◌, length, slice_get, Option, None, Some}
use Rattle.std.proofs.Common.{refl, sym, ap, subst, arith}
use Rattle.std.specs.Prelude.{if◌then◌else◌}
use Rattle.std.specs.List.{fold, list_all, range_with_len}
use Rattle.std.specs.Option.{option_or}
use Rattle.std.proofs.lemmas.Bool.{and_parts}
use Rattle.std.proofs.lemmas.Bool.Decides.{nat_tests}
use Rattle.std.proofs.lemmas.List.{length-replicate, get_or-set_other, get_or-set_same, length-set}
use Rattle.std.proofs.Common.{length-append}
use Rattle.elf_load.specs.declared.image.Part.{Part}
use Rattle.elf_load.specs.Map.{byte_at, byte_in, contents}
use Rattle.page_ram.specs.Bytes.{put_bytes}
use Rattle.page_ram.proofs.ByteLemmas.{length-put_bytes}
use Rattle.sys_bus.specs.declared.region.Target.{Target}
use Rattle.sys_bus.specs.declared.region.Target.TheVariants.{Ram, Clint, Plic, Dev, Nothing}
use Rattle.board.specs.Changes.{cleared, copied, holds_each, in_memory, is_memory, put_byte, put_in}
use Rattle.sys_bus.specs.Region.{target_of}
use Rattle.board.specs.Space.{Space, memory_at, target_at, with_memory}
use Rattle.board.specs.View.{View}
use Rattle.board_space.proofs.CopyLemmas.{plan-copied, plan-put_in}
use Rattle.image_laws.specs.Inner.Places.{StandApart}
use Rattle.monitor.specs.Images.{byte_held, byte_of, holds_part, size, unreserved, with_part, with_parts}
use Rattle.monitor.proofs.ImageLemmas.{cleared_twice, part_still}

-- one byte of a memory
get_put_same :
    (m : List ℕ) (i x : ℕ) → i < length m → slice_get (put_bytes m i (x ∷ [])) i ≡ Some x
get_put_same [] i x within = absurd (omega (arith, within))
get_put_same (y ∷ m) zero x within = refl
get_put_same (y ∷ m) (suc i) x within =
    let next : suc i + 1 ≡ suc (i + 1) = omega arith in rw next (get_put_same m i x (omega (arith, within)))

get_put_other :
    (m : List ℕ) (i j x : ℕ) → i < length m → (i ≡ j → ⊥) →
    slice_get (put_bytes m i (x ∷ [])) j ≡ slice_get m j
get_put_other [] i j x within other = absurd (omega (arith, within))
get_put_other (y ∷ m) zero zero x within other = absurd (other refl)
get_put_other (y ∷ m) zero (suc j) x within other = refl
get_put_other (y ∷ m) (suc i) zero x within other = refl
get_put_other (y ∷ m) (suc i) (suc j) x within other =
    let next : suc i + 1 ≡ suc (i + 1) = omega arith in
    rw next (get_put_other m i j x (omega (arith, within)) (λ same. other (ap suc same)))

-- one byte of a space
abbrev put_at : Space → ℕ → ℕ → ℕ → Space
put_at s part i x = with_memory s part (put_bytes (memory_at s part) i (x ∷ []))

memory_same :
    (s : Space) (part i x : ℕ) → part < length s.memories →
    memory_at (put_at s part i x) part ≡ put_bytes (memory_at s part) i (x ∷ [])
memory_same s part i x there = get_or-set_same s.memories part _ [] there

memory_other :
    (s : Space) (part other i x : ℕ) → (part ≡ other → ⊥) → memory_at (put_at s part i x) other ≡ memory_at s other
memory_other s part other i x differ = get_or-set_other s.memories part other _ [] (λ same. differ (sym same))

same_byte :
    (s : Space) (part i x : ℕ) → part < length s.memories → i < length (memory_at s part) →
    byte_of (put_at s part i x) (Ram part i) ≡ Some x
same_byte s part i x there within =
    ap (λ m. slice_get m i) (memory_same s part i x there) ∙ get_put_same (memory_at s part) i x within

other_byte :
    (s : Space) (part i x q j : ℕ) → part < length s.memories → i < length (memory_at s part) →
    (Ram part i ≡ Ram q j → ⊥) → byte_of (put_at s part i x) (Ram q j) ≡ byte_of s (Ram q j)
other_byte s part i x q j there within differ = by_part (part == q) refl
  where
    by_place : part ≡ q → (b : Bool) → (i == j) ≡ b → byte_of (put_at s part i x) (Ram q j) ≡ byte_of s (Ram q j)
    by_place same true is =
        let place : i ≡ j = grind (arith, nat_tests, is) in absurd (differ (rw (same, place) refl))
    by_place same false is =
        rw (← same)
        (ap (λ m. slice_get m j) (memory_same s part i x there)
        ∙ get_put_other (memory_at s part) i j x within (λ place. grind (arith, nat_tests, is, place)))

    by_part : (b : Bool) → (part == q) ≡ b → byte_of (put_at s part i x) (Ram q j) ≡ byte_of s (Ram q j)
    by_part true is = by_place (grind (arith, nat_tests, is)) (i == j) refl
    by_part false is =
        ap (λ m. slice_get m j) (memory_other s part q i x (λ same. grind (arith, nat_tests, is, same)))

-- the place of a byte that a memory holds
place_of :
    (t : Target) → is_memory t ≡ true → (part : ℕ) × ((at : ℕ) × (t ≡ Ram part at))
place_of (Ram part at) is = (part, (at, refl))
place_of (Dev dev at) is = absurd (cc)
place_of (Clint at) is = absurd (cc)
place_of (Plic at) is = absurd (cc)
place_of Nothing is = absurd (cc)

put_is :
    (s : Space) (at x part i : ℕ) → target_at s at 1 ≡ Ram part i → put_byte s at x ≡ put_at s part i x
put_is s at x part i is = ap (put_in s x) is

by_target :
    (s : Space) (at x a part i : ℕ) (t : Target) → StandApart s → target_at s at 1 ≡ Ram part i →
    target_at s a 1 ≡ t → (a ≡ at → ⊥) → byte_of (put_at s part i x) t ≡ byte_of s t
by_target s at x a part i (Ram q j) apart is there differ =
    other_byte s part i x q j (apart.part at part i is) (apart.held at part i is)
    (λ same. differ (apart.apart a at part i (there ∙ sym same) is))
by_target s at x a part i (Dev dev place) apart is there differ = refl
by_target s at x a part i (Clint place) apart is there differ = refl
by_target s at x a part i (Plic place) apart is there differ = refl
by_target s at x a part i Nothing apart is there differ = refl

one_same :
    (s : Space) (at x part i : ℕ) → StandApart s → target_at s at 1 ≡ Ram part i →
    byte_of (put_at s part i x) (target_at s at 1) ≡ Some x
one_same s at x part i apart is =
    ap (byte_of (put_at s part i x)) is
    ∙ same_byte s part i x (apart.part at part i is) (apart.held at part i is)

-- a space in which one byte was put stands apart too
still_apart :
    (s : Space) (part i x at : ℕ) → StandApart s → target_at s at 1 ≡ Ram part i → StandApart (put_at s part i x)
still_apart s part i x at apart is = record {
  apart = apart.apart;
  part = λ a q j there.
      rw (length-set s.memories part (put_bytes (memory_at s part) i (x ∷ []))) (apart.part a q j there);
  held = λ a q j there. sized q j (apart.held a q j there) (part == q) refl;
}
  where
    sized : (q j : ℕ) → j < length (memory_at s q) → (b : Bool) → (part == q) ≡ b →
        j < length (memory_at (put_at s part i x) q)
    sized q j below true equal =
        let same : part ≡ q = grind (arith, nat_tests, equal) in
        let size : length (memory_at (put_at s part i x) part) ≡ length (memory_at s part) =
        ap length (memory_same s part i x (apart.part at part i is))
        ∙ length-put_bytes (memory_at s part) (x ∷ []) i (omega (arith, apart.held at part i is)) in
        subst (λ n. j < length (memory_at (put_at s part i x) n)) same
        (subst (λ n. j < n) (sym size) (subst (λ n. j < length (memory_at s n)) (sym same) below))
    sized q j below false differ =
        subst (λ m. j < length m)
        (sym (memory_other s part q i x (λ same. grind (arith, nat_tests, differ, same)))) below

-- one byte is put, and each other one stays
one_byte :
    (s : Space) (at x a : ℕ) → StandApart s → in_memory s at ≡ true →
    byte_of (put_byte s at x) (target_at s a 1) ≡ cond (a == at) (Some x) (byte_of s (target_at s a 1))
one_byte s at x a apart held =
    let place = place_of (target_at s at 1) held in
    let put = put_is s at x place.0 place.1.0 place.1.1 in
    rw put (tested place.0 place.1.0 place.1.1 (a == at) refl)
  where
    tested : (part i : ℕ) → target_at s at 1 ≡ Ram part i → (b : Bool) → (a == at) ≡ b →
        byte_of (put_at s part i x) (target_at s a 1) ≡ cond b (Some x) (byte_of s (target_at s a 1))
    tested part i is true same =
        let here : a ≡ at = grind (arith, nat_tests, same) in rw here (one_same s at x part i apart is)
    tested part i is false differ =
        by_target s at x a part i (target_at s a 1) apart is refl
        (λ same. grind (arith, nat_tests, differ, same))

-- the byte that bytes from an address on give another address
abbrev byte_from : ℕ → List ℕ → ℕ → Option ℕ
byte_from at bytes a = if nat_lt a at then None else slice_get bytes (a - at)

from_next :
    (at x a : ℕ) (xs : List ℕ) (before : Option ℕ) →
    option_or (byte_from (at + 1) xs a) (cond (a == at) (Some x) before)
    ≡ option_or (byte_from at (x ∷ xs) a) before
from_next at x a xs before = below (nat_lt a at) refl
  where
    above : a ≡ at + suc (a - at - 1) → option_or (slice_get xs (a - (at + 1))) before
        ≡ option_or (slice_get (x ∷ xs) (a - at)) before
    above is =
        let left : a - at ≡ suc (a - (at + 1)) = omega (arith, is) in rw left refl

    here : nat_lt a at ≡ false → (b : Bool) → (a == at) ≡ b →
        option_or (byte_from (at + 1) xs a) (cond b (Some x) before)
        ≡ option_or (byte_from at (x ∷ xs) a) before
    here behind true same =
        let first : nat_lt a (at + 1) ≡ true = grind (arith, nat_tests, same) in
        let none : a - at ≡ 0 = grind (arith, nat_tests, same) in
        rw (first, behind, none) refl
    here behind false differ =
        let past : nat_lt a (at + 1) ≡ false = grind (arith, nat_tests, behind, differ) in
        rw (past, behind) (above (grind (arith, nat_tests, behind, differ)))

    below : (b : Bool) → nat_lt a at ≡ b →
        option_or (byte_from (at + 1) xs a) (cond (a == at) (Some x) before)
        ≡ option_or (byte_from at (x ∷ xs) a) before
    below true is =
        let first : nat_lt a (at + 1) ≡ true = grind (arith, nat_tests, is) in
        let differ : (a == at) ≡ false = grind (arith, nat_tests, is) in
        rw (is, first, differ) refl
    below false is = here is (a == at) refl

-- bytes are put, and each other one stays
bytes_held :
    (bytes : List ℕ) (s : Space) (at a : ℕ) → StandApart s → holds_each s at (length bytes) ≡ true →
    byte_of (copied s at bytes) (target_at s a 1) ≡ option_or (byte_from at bytes a) (byte_of s (target_at s a 1))
bytes_held [] s at a apart held = none (nat_lt a at)
  where
    empty : List ℕ
    empty = []

    none : (b : Bool) → byte_of s (target_at s a 1)
        ≡ option_or (cond b None (slice_get empty (a - at))) (byte_of s (target_at s a 1))
    none true = refl
    none false = refl
bytes_held (x ∷ xs) s at a apart held =
    let both = and_parts (in_memory s at) (holds_each s (at + 1) (length xs)) held in
    let place = place_of (target_at s at 1) both.0 in
    let put = put_is s at x place.0 place.1.0 place.1.1 in
    let next = subst StandApart (sym put) (still_apart s place.0 place.1.0 x at apart place.1.1) in
    let plan = plan-put_in s x (target_at s at 1) in
    let there : holds_each (put_byte s at x) (at + 1) (length xs) ≡ true =
    ap (λ plan. list_all (λ b. is_memory (target_of plan.regions b 1)) (range_with_len (at + 1) (length xs))) plan
    ∙ both.1 in
    let target : target_at (put_byte s at x) a 1 ≡ target_at s a 1 = ap (λ plan. target_of plan.regions a 1) plan in
    ap (byte_of (copied (put_byte s at x) (at + 1) xs)) (sym target)
    ∙ bytes_held xs (put_byte s at x) (at + 1) a next there
    ∙ ap (option_or (byte_from (at + 1) xs a))
    (ap (byte_of (put_byte s at x)) target ∙ one_byte s at x a apart both.0)
    ∙ from_next at x a xs (byte_of s (target_at s a 1))

or_or : (x y z : Option ℕ) → option_or x (option_or y z) ≡ option_or (option_or x y) z
or_or None y z = refl
or_or (Some n) y z = refl

-- a space in which bytes were put stands apart too
apart_copied :
    (bytes : List ℕ) (s : Space) (at : ℕ) → StandApart s → holds_each s at (length bytes) ≡ true →
    StandApart (copied s at bytes)
apart_copied [] s at apart held = apart
apart_copied (x ∷ xs) s at apart held =
    let both = and_parts (in_memory s at) (holds_each s (at + 1) (length xs)) held in
    let place = place_of (target_at s at 1) both.0 in
    let put = put_is s at x place.0 place.1.0 place.1.1 in
    let next = subst StandApart (sym put) (still_apart s place.0 place.1.0 x at apart place.1.1) in
    let there : holds_each (put_byte s at x) (at + 1) (length xs) ≡ true =
    ap (λ plan. list_all (λ b. is_memory (target_of plan.regions b 1)) (range_with_len (at + 1) (length xs)))
    (plan-put_in s x (target_at s at 1))
    ∙ both.1 in
    apart_copied xs (put_byte s at x) (at + 1) next there

-- a part has so many bytes
contents_size : (part : Part) → length (contents part) ≡ size part
contents_size part = length-append part.bytes _ ∙ ap (λ n. length part.bytes + n) (length-replicate part.zeros 0)

has_places : (v : View) (part : Part) → holds_part v part ≡ true →
    holds_each v.space part.at (length (contents part)) ≡ true
has_places v part is =
    let few = nat_lt (size part) (2 ^ 32) in
    let below = nat_le (part.at + size part) (2 ^ 32) in
    rw (contents_size part) ((and_parts (few && below) (holds_each v.space part.at (size part)) is).1)

part_held :
    (v : View) (part : Part) (a : ℕ) → StandApart v.space → holds_part v part ≡ true →
    byte_held (with_part v part) a ≡ option_or (byte_in part a) (byte_held v a)
part_held v part a apart is =
    let plan = plan-copied v.space part.at (contents part) in
    ap (λ plan. byte_of (copied v.space part.at (contents part)) (target_of plan.regions a 1)) plan
    ∙ bytes_held (contents part) v.space part.at a apart (has_places v part is)

all_same :
    {A : Type 0} (p q : A → Bool) (xs : List A) → ((x : A) → q x ≡ p x) → list_all p xs ≡ true → list_all q xs ≡ true
all_same p q [] same all = refl
all_same p q (x ∷ xs) same all =
    let both = and_parts (p x) (list_all p xs) all in rw (same x, both.0) (all_same p q xs same both.1)

each_held :
    (parts : List Part) (v : View) (a : ℕ) → StandApart v.space → list_all (holds_part v) parts ≡ true →
    byte_held (fold with_part v parts) a ≡ option_or (byte_at parts a) (byte_held v a)
each_held [] v a apart all = refl
each_held (part ∷ later) v a apart all =
    let both = and_parts (holds_part v part) (list_all (holds_part v) later) all in
    let next = apart_copied (contents part) v.space part.at apart (has_places v part both.0) in
    let still = all_same (holds_part v) (holds_part (with_part v part)) later (part_still v part) both.1 in
    each_held later (with_part v part) a next still
    ∙ ap (option_or (byte_at later a)) (part_held v part a apart both.0)
    ∙ or_or (byte_at later a) (byte_in part a) (byte_held v a)

pub parts_held :
    (parts : List Part) (v : View) (a : ℕ) → StandApart v.space → list_all (holds_part v) parts ≡ true →
    byte_held (with_parts v parts) a ≡ option_or (byte_at parts a) (byte_held v a)
parts_held parts v a apart all = each_held parts (unreserved v) a apart all

-- only memories change, and reservations end
only_put :
    (s : Space) (byte : ℕ) (t : Target) → put_in s byte t ≡ record s { memories = (put_in s byte t).memories }
only_put s byte (Ram part at) = refl
only_put s byte (Dev dev at) = refl
only_put s byte (Clint at) = refl
only_put s byte (Plic at) = refl
only_put s byte Nothing = refl

only_copied :
    (bytes : List ℕ) (s : Space) (at : ℕ) →
    copied s at bytes ≡ record s { memories = (copied s at bytes).memories }
only_copied [] s at = refl
only_copied (x ∷ xs) s at =
    only_copied xs (put_byte s at x) (at + 1)
    ∙ ap (λ (t : Space). record t { memories = (copied (put_byte s at x) (at + 1) xs).memories })
    (only_put s x (target_at s at 1))

none_reserved : (parts : List Part) (v : View) → (fold with_part (unreserved v) parts).watch ≡ cleared v.watch
none_reserved parts v = still parts (unreserved v) (cleared_twice v.watch)
  where
    still : (parts : List Part) (w : View) → cleared w.watch ≡ w.watch → (fold with_part w parts).watch ≡ w.watch
    still [] w none = refl
    still (part ∷ later) w none = still later (with_part w part) (cleared_twice w.watch) ∙ none

only_space :
    (parts : List Part) (v : View) →
    fold with_part v parts
    ≡ record v {
      watch = (fold with_part v parts).watch;
      space = record v.space { memories = (fold with_part v parts).space.memories };
    }
only_space [] v = refl
only_space (part ∷ later) v =
    only_space later (with_part v part)
    ∙ ap (λ (t : Space). record v {
      watch = (fold with_part (with_part v part) later).watch;
      space = record t { memories = (fold with_part (with_part v part) later).space.memories };
    })
    (only_copied (contents part) v.space part.at)

pub only_memories :
    (parts : List Part) (v : View) →
    with_parts v parts
    ≡ record (unreserved v) { space = record v.space { memories = (with_parts v parts).space.memories } }
only_memories parts v =
    only_space parts (unreserved v)
    ∙ ap (λ watch. record v {
      watch = watch;
      space = record v.space { memories = (with_parts v parts).space.memories };
    })
    (none_reserved parts v)
