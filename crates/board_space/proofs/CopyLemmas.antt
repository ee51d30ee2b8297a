-- Bytes that are put in memories piece by piece.
use Rattle.std.proofs.Common.{◌≡◌, ℕ, suc, ◌+◌, ◌≤◌, ◌<◌, List, [], ◌∷◌, ◌++◌, length, take, drop, refl, sym, ap, ◌∙◌}
use Rattle.std.proofs.Common.{arith, length-set}
use Rattle.std.specs.Prelude.{slice_index_or, slice_set}
use Rattle.std.proofs.Math.Seq.{take-add}
use Rattle.std.proofs.lemmas.List.{get_or-set_same, set-get_or, get_or_default, set-set}
use Rattle.std.proofs.lemmas.List.{length-take, length-take-le, length-drop, take-take, length-replicate}
use Rattle.std.proofs.lemmas.List.{replicate-append-replicate}
use Rattle.std.specs.Prelude.{Result, Ok, Err}
use Rattle.std.specs.Result.{OnErr}
use Rattle.page_ram.specs.Bytes.{put_bytes, zeros}
use Rattle.page_ram.proofs.ByteLemmas.{length-put_bytes, put_bytes-cons, put_bytes-nil}
use Rattle.sys_bus.specs.declared.region.Target.{Target}
use Rattle.sys_bus.specs.declared.region.Target.TheVariants.{Ram, Clint, Plic, Dev, Nothing}
use Rattle.sys_bus.specs.Region.{target_of}
use Rattle.board_space.specs.Space.{Space, memory_at, with_memory, target_at}
use Rattle.board_space.specs.Changes.{put_in, put_byte, copied, in_memory, is_memory}
use Rattle.board_space.specs.declared.space.memories.Room.{Room}
use Rattle.board_space.specs.Copies.{CopiesPrefix, HasRoom}

put_bytes-first :
    (bytes : List ℕ) (i byte : ℕ) (part : List ℕ) → i < length bytes →
    put_bytes bytes i (byte ∷ part) ≡ put_bytes (put_bytes bytes i (byte ∷ [])) (i + 1) part
put_bytes-first bytes i byte part h =
    let one = put_bytes-cons bytes i (i + 1) byte [] refl h ∙ put_bytes-nil (slice_set bytes i byte) (i + 1) in
    put_bytes-cons bytes i (i + 1) byte part refl h ∙ ap (λ b. put_bytes b (i + 1) part) (sym one)

-- the plan stays
pub plan-put_in : (s : Space) (byte : ℕ) (target : Target) → (put_in s byte target).plan ≡ s.plan
plan-put_in s byte (Ram part at) = refl
plan-put_in s byte (Dev dev at) = refl
plan-put_in s byte (Clint at) = refl
plan-put_in s byte (Plic at) = refl
plan-put_in s byte Nothing = refl

pub plan-copied : (s : Space) (at : ℕ) (bytes : List ℕ) → (copied s at bytes).plan ≡ s.plan
plan-copied s at [] = refl
plan-copied s at (byte ∷ bytes) =
    plan-copied (put_byte s at byte) (at + 1) bytes ∙ plan-put_in s byte (target_at s at 1)

-- bytes and those after them
pub copied-append :
    (s : Space) (at : ℕ) (xs ys : List ℕ) →
    copied s at (xs ++ ys) ≡ copied (copied s at xs) (at + length xs) ys
copied-append s at [] ys = let same : at + 0 ≡ at = omega arith in rw same refl
copied-append s at (x ∷ xs) ys =
    let same : at + suc (length xs) ≡ at + 1 + length xs = omega arith in
    rw same (copied-append (put_byte s at x) (at + 1) xs ys)

-- a memory that is changed to what it is
with_memory_same : (s : Space) (part : ℕ) → with_memory s part (memory_at s part) ≡ s
with_memory_same s part = ap (λ memories. record s { memories = memories }) (set-get_or s.memories part [])

-- bytes in one memory
pub copied_piece :
    (s : Space) (at part place : ℕ) (bytes : List ℕ) →
    part < length s.memories → place + length bytes ≤ length (memory_at s part) →
    ((i : ℕ) → i < length bytes → target_at s (at + i) 1 ≡ Ram part (place + i)) →
    copied s at bytes ≡ with_memory s part (put_bytes (memory_at s part) place bytes)
copied_piece s at part place [] there room each =
    sym (ap (λ m. with_memory s part m) (put_bytes-nil (memory_at s part) place) ∙ with_memory_same s part)
copied_piece s at part place (byte ∷ bytes) there room each =
    let memory = memory_at s part in
    let one = with_memory s part (put_bytes memory place (byte ∷ [])) in
    let begin : target_at s at 1 ≡ Ram part place =
    let a : at + 0 ≡ at = omega arith in
    let b : place + 0 ≡ place = omega arith in
    rw (a, b) at (each 0 (omega arith)) in
    let first : put_byte s at byte ≡ one = ap (put_in s byte) begin in
    let seen : memory_at one part ≡ put_bytes memory place (byte ∷ []) =
    get_or-set_same s.memories part (put_bytes memory place (byte ∷ [])) [] there in
    let size : length (memory_at one part) ≡ length memory =
    ap length seen ∙ length-put_bytes memory (byte ∷ []) place (omega (arith, room)) in
    let count : length one.memories ≡ length s.memories =
    length-set s.memories part (put_bytes memory place (byte ∷ [])) in
    let rest =
    copied_piece one (at + 1) part (place + 1) bytes (omega (arith, there, count)) (omega (arith, room, size))
    (λ i within.
    let a : at + 1 + i ≡ at + suc i = omega arith in
    let b : place + 1 + i ≡ place + suc i = omega arith in
    rw (a, b) (each (suc i) (omega (arith, within)))) in
    ap (λ now. copied now (at + 1) bytes) first
    ∙ rest
    ∙ ap (λ m. with_memory one part (put_bytes m (place + 1) bytes)) seen
    ∙ ap (λ m. with_memory one part m) (sym (put_bytes-first memory place byte bytes (omega (arith, room))))
    ∙ ap (λ memories. record s { memories = memories })
    (set-set s.memories part (put_bytes memory place (byte ∷ [])) (put_bytes memory place (byte ∷ bytes)))

-- a piece of a memory
pub put_piece :
    (s : Space) (at : ℕ) (room : Room) (bytes d old new : List ℕ) (from : ℕ) →
    HasRoom s at room → length bytes ≤ room.size → from ≡ room.part → old ≡ slice_index_or s.memories from d →
    new ≡ put_bytes old room.at bytes → with_memory s from new ≡ copied s at bytes
put_piece s at room bytes d old new from has few part_is old_is new_is =
    let there = has.part in
    let found : old ≡ memory_at s room.part =
    old_is ∙ ap (λ i. slice_index_or s.memories i d) part_is ∙ get_or_default s.memories room.part d [] there in
    ap (λ i. with_memory s i new) part_is
    ∙ ap (λ m. with_memory s room.part m) (new_is ∙ ap (λ m. put_bytes m room.at bytes) found)
    ∙ sym (copied_piece s at room.part room.at bytes there (omega (arith, few, has.lies))
    (λ i within. has.bytes i (omega (arith, few, within))))

pub put_front :
    (s : Space) (at : ℕ) (room : Room) (bytes : List ℕ) (count n : ℕ) (d old new : List ℕ) (from : ℕ) →
    HasRoom s at room → count ≤ room.size → n ≤ length (take count bytes) → from ≡ room.part →
    old ≡ slice_index_or s.memories from d → new ≡ put_bytes old room.at (take n (take count bytes)) →
    CopiesPrefix s (with_memory s from new) at bytes
put_front s at room bytes count n d old new from has few within part_is old_is new_is =
    let whole = length-take count bytes in
    let same : take n (take count bytes) ≡ take n bytes = take-take n count bytes (omega (arith, within, whole)) in
    let size = length-take n bytes in (
      n,
      (
        omega (arith, within, whole),
        put_piece s at room (take n bytes) d old new from has (omega (arith, size, within, whole, few)) part_is old_is
            (new_is ∙ ap (λ b. put_bytes old room.at b) same),
      ),
    )

-- what holds in any case holds after an error
pub on_err : {T E P : Type 0} (r : Result T E) → P → OnErr r P
on_err (Ok x) p = tt
on_err (Err e) p = p

-- the pieces so far, and one more
pub one_more :
    (s mid new : Space) (at done n : ℕ) (bytes : List ℕ) → done ≤ length bytes →
    mid ≡ copied s at (take done bytes) → new ≡ copied mid (at + done) (take n (drop done bytes)) →
    new ≡ copied s at (take (done + n) bytes)
one_more s mid new at done n bytes within mid_is new_is =
    let size = length-take-le done bytes within in
    new_is
    ∙ ap (λ m. copied m (at + done) (take n (drop done bytes))) mid_is
    ∙ ap (λ k. copied (copied s at (take done bytes)) (at + k) (take n (drop done bytes))) (sym size)
    ∙ sym (copied-append s at (take done bytes) (take n (drop done bytes)))
    ∙ ap (copied s at) (sym (take-add done n bytes))

pub more_zeros :
    (s mid new : Space) (at done n : ℕ) →
    mid ≡ copied s at (zeros done) → new ≡ copied mid (at + done) (zeros n) → new ≡ copied s at (zeros (done + n))
more_zeros s mid new at done n mid_is new_is =
    new_is
    ∙ ap (λ m. copied m (at + done) (zeros n)) mid_is
    ∙ ap (λ k. copied (copied s at (zeros done)) (at + k) (zeros n)) (sym (length-replicate {A = ℕ} done 0))
    ∙ sym (copied-append s at (zeros done) (zeros n))
    ∙ ap (copied s at) (replicate-append-replicate done n 0)

pub front_of :
    (s mid new : Space) (at done : ℕ) (bytes : List ℕ) → done ≤ length bytes →
    mid ≡ copied s at (take done bytes) → CopiesPrefix mid new (at + done) (drop done bytes) →
    CopiesPrefix s new at bytes
front_of s mid new at done bytes within mid_is front =
    let left = length-drop done bytes in (
      done + front.0,
      (
        omega (arith, left, front.1.0, within),
        one_more s mid new at done front.0 bytes within mid_is front.1.1,
      ),
    )

-- a byte of a memory, of which some are written
pub still_memory :
    (s mid : Space) (at a : ℕ) (bytes : List ℕ) → mid ≡ copied s at bytes → in_memory mid a ≡ in_memory s a
still_memory s mid at a bytes is =
    ap (λ plan. is_memory (target_of plan.regions a 1)) (ap (λ m. m.plan) is ∙ plan-copied s at bytes)
