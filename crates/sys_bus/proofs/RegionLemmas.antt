-- Which regions hold an access.
use Rattle.std.proofs.Common.{slice_get, find, Option, Some, None, ap, refl, ◌∙◌, ◌≡◌, ℕ, ◌+◌, ◌-◌, ◌<◌, ◌≤◌}
use Rattle.std.proofs.Common.{true, List, length, filter, nat_le, IsTrue, IfSome, inl, inr, arith, rules, ◌^◌}
use Rattle.std.proofs.lemmas.Bool.Decides.{nat_tests}
use Rattle.std.proofs.lemmas.Option.{slice_get_within, get_or_from_slice_get}
use Rattle.sys_bus.specs.declared.region.Region.{Region}
use Rattle.sys_bus.specs.declared.region.RegionKind.{RegionKind}
use Rattle.sys_bus.specs.declared.region.RegionKind.TheVariants.{Ram, Clint, Plic, Dev}
use Rattle.sys_bus.specs.declared.region.Target.TheVariants as to
use Rattle.sys_bus.specs.Region.{holds, overlaps, count_of_overlaps, are_apart, target, target_by, target_if, target_of}
use Rattle.sys_bus.specs.Region.{room_if, room_of, further, end_of, are_addressed, HasByte, IsWithin, LiesIn}
use Rattle.sys_bus.specs.declared.near.NearMemory.{NearMemory}
use Rattle.sys_bus.specs.declared.near.MemoryPlace.{MemoryPlace}
use Rattle.sys_bus.specs.Inner.Near.{IsNear, IsNearPlace}
use Rattle.sys_bus.specs.Place.{IsPlace}
use Rattle.sys_bus.proofs.CountLemmas.{filtered_within_count, one_place, some_passes, sole_found}
use Rattle.lab_num.proofs.ListLemmas.{found_passes, passes_at}

-- two regions that hold an access overlap
both_hold : (at width : ℕ) (a b : Region) →
    0 < width → holds at width a ≡ true → holds at width b ≡ true → overlaps a b ≡ true
both_hold at width a b wide one other = grind (arith, nat_tests)

pub one_holds : (regions : List Region) (at width : ℕ) → 0 < width → IsTrue (are_apart regions) →
    length (filter (holds at width) regions) ≤ 1
one_holds regions at width wide apart =
    let each : are_apart regions ≡ true = search rules in
    elim (some_passes (holds at width) (λ region. nat_le (count_of_overlaps regions region) 1) regions each) [
      | inl none ↦ omega arith
      | inr found ↦
          let held = filtered_within_count (holds at width) (overlaps found.0)
          (λ other also. both_hold at width found.0 other wide found.1.0 also) regions in
          let few : nat_le (count_of_overlaps regions found.0) 1 ≡ true = found.1.1 in
          grind (arith, nat_tests, held, few)
    ]

-- an address lies in one region
pub one_region : (regions : List Region) (at i j : ℕ) (one other : Region) → IsTrue (are_apart regions) →
    slice_get regions i ≡ Some one → HasByte one at → slice_get regions j ≡ Some other → HasByte other at → i ≡ j
one_region regions at i j one other apart at_i has at_j also =
    one_place (holds at 1) regions i j one other (one_holds regions at 1 (omega arith) apart) at_i (held one has) at_j
    (held other also)
  where
    held : (region : Region) → HasByte region at → holds at 1 region ≡ true
    held region has = grind (arith, nat_tests, has.0, has.1)

-- a region that holds an access is the one that it belongs to
pub near_holds : (regions : List Region) (at width i : ℕ) (region : Region) →
    0 < width → IsTrue (are_apart regions) → slice_get regions i ≡ Some region → holds at width region ≡ true →
    target_of regions at width ≡ target at region
near_holds regions at width i region wide apart there held =
    ap (target_if at) (sole_found (holds at width) regions i region (one_holds regions at width wide apart) there held)

-- what lies further on in a region
further_by : (base at i : ℕ) (kind : RegionKind) → base ≤ at →
    target_by (at + i - base) kind ≡ further i (target_by (at - base) kind)
further_by base at i kind low =
    let further_on : at + i - base ≡ at - base + i = omega arith in
    elim kind as (λ k. target_by (at + i - base) k ≡ further i (target_by (at - base) k)) [
      | Ram part ↦ ap (λ offset. to.Ram part offset) further_on
      | Clint ↦ ap (λ offset. to.Clint offset) further_on
      | Plic ↦ ap (λ offset. to.Plic offset) further_on
      | Dev dev ↦ ap (λ offset. to.Dev dev offset) further_on
    ]

-- each byte of a region belongs to the same as one before it
pub belong_together : (regions : List Region) (at i : ℕ) → IsTrue (are_apart regions) → i < room_of regions at →
    target_of regions (at + i) 1 ≡ further i (target_of regions at 1)
belong_together regions at i apart within =
    elim (find (holds at 1) regions) as (λ found. find (holds at 1) regions ≡ found → i < room_if at found →
    target_of regions (at + i) 1 ≡ further i (target_if at found)) [
      | None ↦ λ is none. absurd (omega (arith, none))
      | Some region ↦ λ is room.
          let there = found_passes (holds at 1) regions region is in
          let low : region.base ≤ at = grind (arith, nat_tests, there.0) in
          let held : holds (at + i) 1 region ≡ true = grind (arith, nat_tests, there.0, room) in
          near_holds regions (at + i) 1 there.1.0 region (omega arith) apart there.1.1 held
          ∙ further_by region.base at i region.kind low
    ] refl within

-- a target lies in its region
within_target : (regions : List Region) (at width : ℕ) → IsWithin regions width (target_of regions at width)
within_target regions at width =
    elim (find (holds at width) regions) as (λ found. find (holds at width) regions ≡ found →
    IsWithin regions width (target_if at found)) [
      | None ↦ λ is. tt
      | Some region ↦ λ is.
          let there = found_passes (holds at width) regions region is in
          let fits : at - region.base + width ≤ region.size = grind (arith, nat_tests, there.0) in
          let inside = slice_get_within regions there.1.0 region there.1.1 in
          let read = get_or_from_slice_get regions there.1.0 region region there.1.1 in
          by_kind region.kind (at - region.base) (there.1.0, region, inside, read, (refl, fits))
    ] refl
  where
    by_kind :
        (kind : RegionKind) (place : ℕ) → LiesIn regions width kind place →
        IsWithin regions width (target_by place kind)
    by_kind (Ram part) place lies = lies
    by_kind Clint place lies = lies
    by_kind Plic place lies = lies
    by_kind (Dev dev) place lies = lies

-- all bytes of a region that is found have addresses
pub found_addressed :
    (regions : List Region) (at width : ℕ) (region : Region) → IsTrue (are_addressed regions) →
    find (holds at width) regions ≡ Some region → end_of region ≤ 2 ^ 32
found_addressed regions at width region addressed found =
    let there = found_passes (holds at width) regions region found in
    let all : are_addressed regions ≡ true = search rules in
    let passes = passes_at (λ r. nat_le (end_of r) (2 ^ 32)) regions there.1.0 region all there.1.1 in
    grind (arith, nat_tests, passes)

-- an access of a memory that is kept belongs to it
pub near_place :
    (regions : List Region) (near : NearMemory) (at : ℕ) (place : Option MemoryPlace) →
    IsNear regions near → IfSome place (IsNearPlace near at) → IfSome place (IsPlace regions at)
near_place regions near at None kept found = tt
near_place regions near at (Some place) kept found = λ width wide.
    let target : target_of regions at width ≡ to.Ram place.part place.at =
    rw (found.part, ← found.address) (kept place.at width found.starts wide) in
    (target, rw target at (within_target regions at width))

-- a region that was found is kept
pub near_found :
    (regions : List Region) (at width part : ℕ) (region : Region) (near : NearMemory) →
    IsTrue (are_apart regions) → find (holds at width) regions ≡ Some region → region.kind ≡ Ram part →
    near.base ≡ region.base → near.starts ≡ region.size - 3 → near.part ≡ part → IsNear regions near
near_found regions at width part region near apart found kind base starts part_is = λ i w below wide.
    let there = found_passes (holds at width) regions region found in
    let few : (0 < w) × (w ≤ 4) = grind (arith, wide) in
    let held : holds (near.base + i) w region ≡ true = grind (arith, nat_tests, base, starts, below, few) in
    let offset : near.base + i - region.base ≡ i = omega (arith, base) in
    near_holds regions (near.base + i) w there.1.0 region few.0 apart there.1.1 held
    ∙ rw (kind, offset, part_is) refl
