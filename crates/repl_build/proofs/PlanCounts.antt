-- The counts of the parts of a plan.
use Rattle.std.proofs.Common.{◌≡◌, ℕ, ◌+◌, ◌<◌, ◌≤◌, ◌==◌, ◌∙◌, Bool, true, false, ◌&&◌, ◌||◌, refl, sym, List, []}
use Rattle.std.proofs.Common.{◌∷◌, ◌++◌, Option, None, Some, nat_le, nat_lt, cond, length, map, filter, sum, arith}
use Rattle.std.proofs.Common.{append_assoc}
use Rattle.std.proofs.lemmas.Bool.Decides.{nat_tests}
use Rattle.std.proofs.lemmas.List.{append-nil}
use Rattle.std.proofs.lemmas.List.Sums.{sum_by-cons, sum_by_push}
use Rattle.std.specs.List.{cons_option, sum_by}
use Rattle.std.proofs.lemmas.Bool.{and_from}
use Rattle.dev_core.specs.declared.kind.Kind.{Kind}
use Rattle.dev_core.specs.Kind.{is_kind}
use Rattle.sys_bus.specs.Limits.{most_memory}
use Rattle.sys_bus.specs.declared.plan.Named.{Named}
use Rattle.sys_bus.specs.declared.region.Region.{Region}
use Rattle.sys_bus.specs.declared.region.RegionKind.{RegionKind}
use Rattle.sys_bus.specs.declared.region.RegionKind.TheVariants as part
use Rattle.sys_bus.specs.Limits as limit
use Rattle.sys_bus.specs.Part.{names_of, regions_of, has_one_each, has_at_most_one_each, has_parts}
use Rattle.repl_build.specs.declared.merge.Peripheral.{Peripheral}
use Rattle.repl_build.specs.declared.types.PeripheralType.{PeripheralType}
use Rattle.repl_build.specs.declared.types.PeripheralType.TheVariants.{Cpu, Memory, Clint, Plic, Device}
use Rattle.repl_build.specs.Counts.{count_of, bytes_of, has_type}
use Rattle.repl_build.specs.Numbers.{devices_of, is_device}
use Rattle.repl_build.specs.Places.{size_of}
use Rattle.repl_build.specs.Plan.{each, name_of, region_of, kind_by, kinds_of, memories_of}
use Rattle.repl_build.specs.Types.{is_type}
use Rattle.repl_build.proofs.ListLemmas.{count_cons, all_in_range}
use Rattle.repl_build.proofs.PartCounts.{names_hits, regions_hits, one_each, memories_numbered, devices_numbered}
use Rattle.repl_build.proofs.PartCounts.{clint_hits}
use Rattle.repl_build.proofs.PartCounts.{plic_hits}
use Rattle.repl_build.proofs.SoundLemmas.{Sound}
use Rattle.repl_build.proofs.WhatLemmas.{device_cons}

-- memories
pub memories_count : (all : List Peripheral) → length (memories_of all) ≡ count_of all Memory
memories_count [] = refl
memories_count (p ∷ ps) =
    let rest = memories_count ps in
    let sum : count_of (p ∷ ps) Memory ≡ cond {A = ℕ} (is_type Memory p.kind) 1 0 + count_of ps Memory =
    count_cons (λ q. is_type Memory q.kind) p ps in
    elim (is_type Memory p.kind) as (λ b. count_of (p ∷ ps) Memory ≡ cond {A = ℕ} b 1 0 + count_of ps Memory →
    length (map size_of (cond b (p ∷ filter (λ q. is_type Memory q.kind) ps) (filter
    (λ q. is_type Memory q.kind) ps)))
    ≡ count_of (p ∷ ps) Memory) [
      | true ↦ λ sum. omega (arith, sum, rest)
      | false ↦ λ sum. omega (arith, sum, rest)
    ] sum

pub memories_sum : (all : List Peripheral) → sum (memories_of all) ≡ sum_by bytes_of all
memories_sum [] = refl
memories_sum (p ∷ ps) =
    let rest = memories_sum ps in
    let whole : sum_by bytes_of (p ∷ ps) ≡ cond {A = ℕ} (is_type Memory p.kind) (size_of p) 0 + sum_by bytes_of ps =
    sum_by-cons bytes_of p ps in
    elim (is_type Memory p.kind) as (λ b. sum_by bytes_of (p ∷ ps) ≡ cond {A = ℕ} b
    (size_of p) 0 + sum_by bytes_of ps →
    sum (map size_of (cond b (p ∷ filter (λ q. is_type Memory q.kind) ps) (filter (λ q. is_type Memory q.kind) ps)))
    ≡ sum_by bytes_of (p ∷ ps)) [
      | true ↦ λ whole. let more = sum_by-cons (λ (n : ℕ). n) (size_of p) (memories_of ps) in omega
          (arith, whole, rest, more)
      | false ↦ λ whole. omega (arith, whole, rest)
    ] whole

memory_more :
    (b : Bool) (bytes size before : ℕ) → bytes ≡ cond {A = ℕ} b size 0 → before ≤ most_memory →
    (b && nat_lt most_memory (bytes + before)) ≡ false → before + bytes ≤ most_memory
memory_more true bytes size before is few fits = grind (arith, nat_tests)
memory_more false bytes size before is few fits = omega (arith, is, few)

memory_within :
    (all before xs : List Peripheral) → sum_by bytes_of before ≤ most_memory → Sound all before xs →
    sum_by bytes_of (before ++ xs) ≤ most_memory
memory_within all before [] few sound = rw append-nil few
memory_within all before (p ∷ ps) few sound =
    let more : sum_by bytes_of (before ++ p ∷ []) ≤ most_memory =
    rw (sum_by_push bytes_of before p)
    (memory_more (is_type Memory p.kind) (bytes_of p) (size_of p) (sum_by bytes_of before) refl few sound.0.few) in
    rw (← append_assoc before (p ∷ []) ps) (memory_within all (before ++ p ∷ []) ps more sound.1)

pub few_bytes : (all : List Peripheral) → Sound all [] all → sum_by bytes_of all ≤ most_memory
few_bytes all sound = memory_within all [] all (omega arith) sound

-- a type that is there is counted
pub counted_type : (k : PeripheralType) (all : List Peripheral) → has_type k all ≡ true → 1 ≤ count_of all k
counted_type k [] is = absurd (cc)
counted_type k (p ∷ ps) is =
    let sum : count_of (p ∷ ps) k ≡ cond {A = ℕ} (is_type k p.kind) 1 0 + count_of ps k =
    count_cons (λ q. is_type k q.kind) p ps in
    elim (is_type k p.kind) as (λ b. (b || has_type k ps) ≡ true →
    count_of (p ∷ ps) k ≡ cond {A = ℕ} b 1 0 + count_of ps k → 1 ≤ count_of (p ∷ ps) k) [
      | true ↦ λ is sum. omega (arith, sum)
      | false ↦ λ is sum. let rest = counted_type k ps is in omega (arith, sum, rest)
    ] is sum

-- devices
kind_counted : (kind : Kind) (t : Option PeripheralType) (kinds : List Kind) →
    limit.count_of (cons_option (kind_by t) kinds) kind ≡ cond {A = ℕ}
    (is_type (Device kind) t) 1 0 + limit.count_of kinds kind
kind_counted kind (Some (Device other)) kinds = count_cons (is_kind kind) other kinds
kind_counted kind _ kinds = omega arith

-- of each kind a plan has as many devices as there are entries of it
pub kinds_count : (kind : Kind) (all : List Peripheral) →
    limit.count_of (kinds_of all) kind ≡ count_of all (Device kind)
kinds_count kind [] = refl
kinds_count kind (p ∷ ps) =
    let rest = kinds_count kind ps in
    let here = kind_counted kind p.kind (kinds_of ps) in
    let sum = count_cons (λ q. is_type (Device kind) q.kind) p ps in
    omega (arith, rest, here, sum)

device_length : (t : Option PeripheralType) (kinds : List Kind) →
    length (cons_option (kind_by t) kinds) ≡ cond {A = ℕ} (is_device t) 1 0 + length kinds
device_length None kinds = omega arith
device_length (Some Cpu) kinds = omega arith
device_length _ kinds = omega arith

pub devices_count : (all : List Peripheral) → length (kinds_of all) ≡ devices_of all
devices_count [] = refl
devices_count (p ∷ ps) =
    let rest = devices_count ps in
    let one = device_length p.kind (kinds_of ps) in
    let sum = device_cons p ps in
    omega (arith, rest, one, sum)

-- parts
equal : (m n : ℕ) → m ≡ n → (m == n) ≡ true
equal m n is = grind (arith, nat_tests)

each_one :
    (all : List Peripheral) (k : RegionKind) (n : ℕ) → names_of (each name_of [] all) k ≡ n →
    regions_of (each region_of [] all) k ≡ n → n ≡ 1 →
    has_one_each (each name_of [] all) (each region_of [] all) k ≡ true
each_one all k n names regions one =
    and_from _ _ (equal _ 1 (names ∙ one)) (equal _ 1 (regions ∙ one))

most_one :
    (names : List Named) (regions : List Region) (k : RegionKind) (n : ℕ) → names_of names k ≡ n →
    regions_of regions k ≡ n →
    n ≤ 1 → has_at_most_one_each names regions k ≡ true
most_one names regions k n is at few =
    and_from _ _ (below (regions_of regions k) 1 (omega (arith, at, few))) (equal _ _ (is ∙ sym at))
  where
    below : (m n : ℕ) → m ≤ n → nat_le m n ≡ true
    below m n le = grind (arith, nat_tests)

pub parts :
    (all : List Peripheral) → count_of all Clint ≤ 1 → count_of all Plic ≤ 1 →
    has_parts (each name_of [] all) (each region_of [] all) (length (memories_of all)) (length (kinds_of all)) ≡ true
parts all clints plics =
    let memory = λ (i : ℕ) (low : 0 ≤ i) (high : i < 0 + length (memories_of all)).
    (let inside : i < count_of all Memory = omega (arith, high, memories_count all) in
    let one = one_each _ part.Ram _ memories_numbered i [] all (omega arith) inside in
    each_one all (part.Ram i) _ (names_hits (part.Ram i) [] all) (regions_hits (part.Ram i) [] all) one) in
    let device = λ (i : ℕ) (low : 0 ≤ i) (high : i < 0 + length (kinds_of all)).
    (let inside : i < devices_of all = omega (arith, high, devices_count all) in
    let one = one_each _ part.Dev _ devices_numbered i [] all (omega arith) inside in
    each_one all (part.Dev i) _ (names_hits (part.Dev i) [] all) (regions_hits (part.Dev i) [] all) one) in
    and_from _ _ (and_from _ _ (and_from _ _
    (all_in_range _ 0 (length (memories_of all)) memory) (all_in_range _ 0 (length (kinds_of all)) device))
    (most_one (each name_of [] all) (each region_of [] all) part.Clint (count_of all Clint)
    (names_hits part.Clint [] all ∙ clint_hits [] all)
    (regions_hits part.Clint [] all ∙ clint_hits [] all) clints))
    (most_one (each name_of [] all) (each region_of [] all) part.Plic (count_of all Plic)
    (names_hits part.Plic [] all ∙ plic_hits [] all)
    (regions_hits part.Plic [] all ∙ plic_hits [] all) plics)
