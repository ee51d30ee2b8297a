-- The memories of a valid plan have whole pages.
use Rattle.std.proofs.Common.{◌≡◌, ◌≤◌, ◌+◌, ◌==◌, ℕ, List, [], ◌∷◌, Bool, true, false, All, count_by, length, refl}
use Rattle.std.proofs.Common.{arith, ap}
use Rattle.std.specs.Prelude.{slice_index, if◌then◌else◌}
use Rattle.std.specs.List.{list_all, range_with_len}
use Rattle.std.proofs.lemmas.Bool.{and_parts}
use Rattle.std.proofs.lemmas.Bool.Decides.{nat_tests}
use Rattle.std.proofs.lemmas.List.{get_or_default}
use Rattle.std.proofs.lemmas.List.FromFn.{get_or-range_with_len, length-range_with_len}
use Rattle.std.proofs.lemmas.List.Sums.{AllPass-from_list_all, get_or-le-sum_by, sum_by-cons}
use Rattle.page_ram.specs.Access.{IsRamSize}
use Rattle.sys_bus.specs.declared.plan.BoardPlan.{BoardPlan}
use Rattle.sys_bus.specs.declared.region.RegionKind.{RegionKind}
use Rattle.sys_bus.specs.declared.region.RegionKind.TheVariants as kind
use Rattle.sys_bus.specs.Limits.{are_few_memories, is_range}
use Rattle.sys_bus.specs.Part.{has_memory_size, has_one_each, regions_of}
use Rattle.sys_bus.specs.Plan.{IsValid}
use Rattle.sys_bus.specs.Region.{same_part}

-- where items are counted there is one, which passes what all pass
one_of : {X : Type 0} (p t u : X → Bool) (xs : List X) → 1 ≤ count_by p xs → list_all t xs ≡ true →
    list_all u xs ≡ true → (x : X) × (p x ≡ true) × (t x ≡ true) × (u x ≡ true)
one_of p t u [] some ts us = absurd (omega arith)
one_of {X} p t u (x ∷ xs) some ts us =
    let t_parts = and_parts (t x) (list_all t xs) ts in
    let u_parts = and_parts (u x) (list_all u xs) us in
    by_test (p x) refl (rw (sum_by-cons (λ y. if p y then 1 else 0) x xs) at some) t_parts.0 u_parts.0
    (λ more. one_of p t u xs more t_parts.1 u_parts.1)
  where
    by_test : (b : Bool) → p x ≡ b → 1 ≤ (if b then 1 else 0) + count_by p xs → t x ≡ true → u x ≡ true →
        (1 ≤ count_by p xs → (y : X) × (p y ≡ true) × (t y ≡ true) × (u y ≡ true)) →
        (y : X) × (p y ≡ true) × (t y ≡ true) × (u y ≡ true)
    by_test true is many tx ux others = (x, is, tx, ux)
    by_test false is many tx ux others = others (omega (arith, many))

is_ram : (part : ℕ) (k : RegionKind) → same_part k (kind.Ram part) ≡ true → k ≡ kind.Ram part
is_ram part (kind.Ram i) same = let is : i ≡ part = grind (arith, nat_tests, same) in ap kind.Ram is
is_ram part kind.Clint same = absurd cc
is_ram part kind.Plic same = absurd cc
is_ram part (kind.Dev i) same = absurd cc

-- each memory has a region, which has the memory's size
pub ram_sizes : (plan : BoardPlan) → IsValid plan → All IsRamSize plan.memories
ram_sizes plan valid i d within =
    let parts : list_all (λ j. has_one_each plan.names plan.regions (kind.Ram j))
    (range_with_len 0 (length plan.memories)) ≡ true =
    (and_parts _ _ (and_parts _ _ (and_parts _ _ valid.parts).0).0).0 in
    let here = AllPass-from_list_all (λ j. has_one_each plan.names plan.regions (kind.Ram j))
    (range_with_len 0 (length plan.memories)) parts i 0
    (let len = length-range_with_len 0 (length plan.memories) in omega (arith, len)) in
    let at_i : 0 + i ≡ i = omega arith in
    let one : has_one_each plan.names plan.regions (kind.Ram i) ≡ true =
    rw (get_or-range_with_len 0 (length plan.memories) i 0 within, at_i) at here in
    let counted : 1 ≤ regions_of plan.regions (kind.Ram i) = grind (arith, nat_tests, one) in
    let found = one_of (λ region. same_part region.kind (kind.Ram i))
    (λ region. has_memory_size plan.memories region.kind region.size) (is_range plan.kinds) plan.regions counted
    valid.memory_sizes valid.ranges in
    let region = found.0 in
    let is = is_ram i region.kind found.1 in
    let sized : (region.size == slice_index plan.memories i) ≡ true = rw is at found.2 in
    let ranged = rw is at found.3 in
    let same = get_or_default plan.memories i d 0 within in
    let few : are_few_memories plan.memories ≡ true = valid.few_memories in
    let sum' = get_or-le-sum_by (λ n. n) plan.memories i 0 within in (
      grind (arith, nat_tests, ranged, sized, same),
      grind (arith, nat_tests, ranged, sized, same),
      grind (arith, nat_tests, few, sum', same),
    )
