-- The regions of peripherals that keep all rules.
use Rattle.std.proofs.Common.{◌≡◌, ℕ, ◌+◌, ◌^◌, ◌==◌, ◌∙◌, Bool, true, false, ◌&&◌, ◌||◌, refl, sym, ap, List}
use Rattle.std.proofs.Common.{[], ◌∷◌, ◌++◌, Option, None, Some, nat_lt, nat_le, arith, append_assoc}
use Rattle.std.proofs.Common.{cond, codes, subst}
use Rattle.std.proofs.lemmas.Bool.Decides.{nat_tests}
use Rattle.std.proofs.Math.Nat.{max_comm, min_comm}
use Rattle.std.proofs.lemmas.List.{append-nil}
use Rattle.std.proofs.lemmas.List.Folds.{list_any-append}
use Rattle.std.specs.List.{list_all, list_any}
use Rattle.sys_bus.specs.declared.region.Region.{Region}
use Rattle.sys_bus.specs.declared.region.RegionKind.{RegionKind}
use Rattle.sys_bus.specs.Limits.{device_in, is_step, are_steps}
use Rattle.sys_bus.specs.Part.{has_memory_size, have_memory_sizes}
use Rattle.std.specs.Prelude.{slice_index}
use Rattle.std.proofs.lemmas.Bool.{and_from, or_parts}
use Rattle.dev_core.specs.Kind.{row_of}
use Rattle.sys_bus.specs.declared.plan.NamedWhat.{NamedWhat}
use Rattle.sys_bus.specs.declared.plan.NamedWhat.TheVariants as what
use Rattle.sys_bus.specs.Region.{overlaps, end_of, count_of_overlaps, are_apart, are_addressed}
use Rattle.repl_build.specs.declared.merge.Peripheral.{Peripheral}
use Rattle.repl_build.specs.declared.types.PeripheralType.{PeripheralType}
use Rattle.repl_build.specs.declared.types.PeripheralType.TheVariants.{Cpu, Memory, Device}
use Rattle.repl_build.specs.Attributes.{is_set}
use Rattle.repl_build.specs.Counts.{count_of}
use Rattle.repl_build.specs.Numbers.{is_device, what_of}
use Rattle.repl_build.specs.Places as place
use Rattle.repl_build.specs.Plan.{each, region_by, region_of, memories_of, kinds_of, kind_by}
use Rattle.repl_build.specs.Types.{is_type}
use Rattle.repl_build.proofs.WhatLemmas.{same_part_of, memory_at, kind_at}
use Rattle.repl_build.proofs.ListLemmas.{all_append, NoneBefore, self_alone}
use Rattle.repl_build.proofs.SoundLemmas.{Fits, Sound}

same_number : (n : ℕ) → (n == n) ≡ true
same_number n = grind (arith, nat_tests)

-- a test of each region, by a test of each peripheral
pub regions_pass :
    (test : Region → Bool) (all before xs : List Peripheral) →
    ((before : List Peripheral) (p : Peripheral) (ps : List Peripheral) (o : Option NamedWhat) → Fits all before p →
    all ≡ before ++ p ∷ ps → o ≡ what_of before p.kind → list_all test (region_by p o) ≡ true) →
    all ≡ before ++ xs → Sound all before xs → list_all test (each region_of before xs) ≡ true
regions_pass test all before [] one whole sound = refl
regions_pass test all before (p ∷ ps) one whole sound =
    all_append test (region_of before p) (each region_of (before ++ p ∷ []) ps)
    (one before p ps (what_of before p.kind) sound.0 whole refl)
    (regions_pass test all (before ++ p ∷ []) ps one (whole ∙ sym (append_assoc before (p ∷ []) ps)) sound.1)

addressed_one :
    (all before : List Peripheral) (p : Peripheral) (o : Option NamedWhat) → Fits all before p →
    list_all (λ region. nat_le (end_of region) (2 ^ 32)) (region_by p o) ≡ true
addressed_one all before p None fits = refl
addressed_one all before p (Some what.Cpu) fits = refl
addressed_one all before p (Some (what.Part part)) fits =
    let low : nat_le (place.base_of p + place.size_of p) (2 ^ 32) ≡ true =
    below (2 ^ 32) (place.base_of p + place.size_of p) fits.addressed in
    and_from _ _ low refl
  where
    below : (m n : ℕ) → nat_lt m n ≡ false → nat_le n m ≡ true
    below m n is = grind (arith, nat_tests)

pub addressed : (all : List Peripheral) → Sound all [] all → are_addressed (each region_of [] all) ≡ true
addressed all sound =
    regions_pass (λ region. nat_le (end_of region) (2 ^ 32)) all [] all
    (λ before p ps o fits whole is. addressed_one all before p o fits) refl sound

size_one :
    (t : Option PeripheralType) (p : Peripheral) (before ps : List Peripheral) (part : RegionKind) → p.kind ≡ t →
    Some (what.Part part) ≡ what_of before t →
    has_memory_size (memories_of (before ++ p ∷ ps)) part (place.size_of p) ≡ true
size_one None p before ps part kind is = absurd (cc)
size_one (Some Cpu) p before ps part kind is = absurd (cc)
size_one (Some Memory) p before ps part kind is =
    let same = same_part_of _ _ is in
    let memory : is_type Memory p.kind ≡ true = ap (is_type Memory) kind in
    let at : (place.size_of p == slice_index (memories_of (before ++ p ∷ ps)) (count_of before Memory)) ≡ true =
    rw (memory_at before p ps memory) (same_number (place.size_of p)) in
    rw same at
size_one _ p before ps part kind is = rw (same_part_of _ _ is) refl

sized_one :
    (all before : List Peripheral) (p : Peripheral) (ps : List Peripheral) (o : Option NamedWhat) →
    all ≡ before ++ p ∷ ps → o ≡ what_of before p.kind →
    list_all (λ region. has_memory_size (memories_of all) region.kind region.size) (region_by p o) ≡ true
sized_one all before p ps None whole is = refl
sized_one all before p ps (Some what.Cpu) whole is = refl
sized_one all before p ps (Some (what.Part part)) whole is =
    and_from _ _ (rw whole (size_one p.kind p before ps part refl is)) refl

-- a memory's region has the memory's size
pub memory_sizes :
    (all : List Peripheral) → Sound all [] all → have_memory_sizes (memories_of all) (each region_of [] all) ≡ true
memory_sizes all sound =
    regions_pass (λ region. has_memory_size (memories_of all) region.kind region.size) all [] all
    (λ before p ps o fits whole is. sized_one all before p ps o whole is) refl sound

-- the step of a device is one that its kind allows
allowed : (may_be_wide wide : Bool) →
    ((cond {A = ℕ} (may_be_wide && wide) 4 1 == 1) || (may_be_wide && (cond {A = ℕ} (may_be_wide && wide) 4 1 == 4)))
    ≡ true
allowed true true = refl
allowed true false = refl
allowed false wide = refl

step_one :
    (t : Option PeripheralType) (p : Peripheral) (before ps : List Peripheral) (part : RegionKind) → p.kind ≡ t →
    Some (what.Part part) ≡ what_of before t →
    is_step (device_in (kinds_of (before ++ p ∷ ps)) part) (place.step_of t p.items) ≡ true
step_one None p before ps part kind is = absurd (cc)
step_one (Some Cpu) p before ps part kind is = absurd (cc)
step_one (Some (Device device)) p before ps part kind is =
    let same = same_part_of _ _ is in
    let at = kind_at before p ps (ap is_device kind) ∙ ap kind_by kind in
    rw same (rw at (allowed (row_of device).may_be_wide (is_set (codes "wideRegisters") p.items)))
step_one _ p before ps part kind is = rw (same_part_of _ _ is) refl

stepped_one :
    (all before : List Peripheral) (p : Peripheral) (ps : List Peripheral) (o : Option NamedWhat) →
    all ≡ before ++ p ∷ ps → o ≡ what_of before p.kind →
    list_all (λ region. is_step (device_in (kinds_of all) region.kind) region.step) (region_by p o) ≡ true
stepped_one all before p ps None whole is = refl
stepped_one all before p ps (Some what.Cpu) whole is = refl
stepped_one all before p ps (Some (what.Part part)) whole is =
    and_from _ _ (rw whole (step_one p.kind p before ps part refl is)) refl

pub steps : (all : List Peripheral) → Sound all [] all → are_steps (kinds_of all) (each region_of [] all) ≡ true
steps all sound =
    regions_pass (λ region. is_step (device_in (kinds_of all) region.kind) region.step) all [] all
    (λ before p ps o fits whole is. stepped_one all before p ps o whole is) refl sound

same_overlap : (a b : Region) → overlaps a b ≡ overlaps b a
same_overlap a b = rw (max_comm a.base b.base, min_comm (end_of a) (end_of b)) refl

pub each_append :
    {X : Type 0} (f : List Peripheral → Peripheral → List X) (before xs ys : List Peripheral) →
    each f before (xs ++ ys) ≡ each f before xs ++ each f (before ++ xs) ys
each_append f before [] ys = rw append-nil refl
each_append f before (x ∷ xs) ys =
    ap (λ more. f before x ++ more) (each_append f (before ++ x ∷ []) xs ys)
    ∙ (rw (append_assoc before (x ∷ []) xs) (sym (append_assoc (f before x) _ _)))

apart_one :
    (p q : Peripheral) (o : Option NamedWhat) → place.overlaps p q ≡ false →
    (r : Region) → r.base ≡ place.base_of p → r.size ≡ place.size_of p → list_any (overlaps r) (region_by q o) ≡ false
apart_one p q None apart r base size = refl
apart_one p q (Some what.Cpu) apart r base size = refl
apart_one p q (Some (what.Part other)) apart r base size =
    let same : overlaps r (record {
      base = place.base_of q;
      size = place.size_of q;
      kind = other;
      step
          = place.step_of q.kind q.items;
    })
    ≡ place.overlaps p q = rw (base, size) refl in
    rw (same, apart) refl

regions_apart :
    (p : Peripheral) (r : Region) → r.base ≡ place.base_of p → r.size ≡ place.size_of p →
    (before xs : List Peripheral) →
    list_any (place.overlaps p) xs ≡ false → list_any (overlaps r) (each region_of before xs) ≡ false
regions_apart p r base size before [] none = refl
regions_apart p r base size before (q ∷ qs) none =
    let parts = or_parts (place.overlaps p q) (list_any (place.overlaps p) qs) none in
    let one = apart_one p q (what_of before q.kind) parts.0 r base size in
    let rest = regions_apart p r base size (before ++ q ∷ []) qs parts.1 in
    list_any-append (overlaps r) (region_of before q) (each region_of (before ++ q ∷ []) qs) ∙ (rw (one, rest) refl)

put_front :
    (p : Peripheral) (o : Option NamedWhat) (before rest : List Region) →
    ((r : Region) → r.base ≡ place.base_of p → r.size ≡ place.size_of p → list_any (overlaps r) before ≡ false) →
    NoneBefore overlaps (before ++ region_by p o) rest → NoneBefore overlaps before (region_by p o ++ rest)
put_front p None before rest none later = subst (λ b. NoneBefore overlaps b rest) (append-nil before) later
put_front p (Some what.Cpu) before rest none later = subst (λ b. NoneBefore overlaps b rest) (append-nil before) later
put_front p (Some (what.Part part)) before rest none later =
    let region : Region =
    record { base = place.base_of p; size = place.size_of p; kind = part; step = place.step_of p.kind p.items } in
    (none region refl refl, later)

none_overlap :
    (all before xs : List Peripheral) → Sound all before xs →
    NoneBefore overlaps (each region_of [] before) (each region_of before xs)
none_overlap all before [] sound = tt
none_overlap all before (p ∷ ps) sound =
    let last : each region_of [] (before ++ p ∷ []) ≡ each region_of [] before ++ region_of before p =
    each_append region_of [] before (p ∷ []) ∙ ap (λ more. each region_of [] before ++ more) (append-nil
    (region_of before p)) in
    put_front p (what_of before p.kind) (each region_of [] before) (each region_of (before ++ p ∷ []) ps)
    (λ r base size. regions_apart p r base size [] before sound.0.apart)
    (subst (λ b. NoneBefore overlaps b (each region_of (before ++ p ∷ []) ps)) last (none_overlap all
    (before ++ p ∷ []) ps sound.1))

at_most_one : (n : ℕ) (b : Bool) → n ≡ cond {A = ℕ} b 1 0 → nat_le n 1 ≡ true
at_most_one n true is = rw is refl
at_most_one n false is = rw is refl

-- no byte lies in two regions
pub apart : (all : List Peripheral) → Sound all [] all → are_apart (each region_of [] all) ≡ true
apart all sound =
    let regions = each region_of [] all in
    self_alone overlaps same_overlap (λ region. nat_le (count_of_overlaps regions region) 1) [] regions regions
    (λ r is. at_most_one (count_of_overlaps regions r) (overlaps r r) is) refl (none_overlap all [] all sound)
