-- The names of a plan, and what stands for what.
use Rattle.std.proofs.Common.{◌≡◌, ℕ, ◌<◌, ◌==◌, ◌∙◌, Bool, true, false, ◌||◌, refl, sym, ap, List, []}
use Rattle.std.proofs.Common.{◌∷◌, ◌++◌, Option, None, Some, cond, count_by, arith, is_some, append_assoc}
use Rattle.std.proofs.Common.{subst}
use Rattle.std.proofs.lemmas.List.{append-nil}
use Rattle.std.proofs.lemmas.List.Folds.{list_any-append}
use Rattle.std.proofs.lemmas.Grind.{flat_map-append}
use Rattle.std.proofs.lemmas.Slice.Eq.{bytes_eq-Decides}
use Rattle.std.specs.List.{list_all, list_any, flat_map}
use Rattle.std.specs.Option.{option_map}
use Rattle.std.specs.Str.{bytes_eq}
use Rattle.std.proofs.lemmas.Bool.{and_from, or_parts, and_parts, lt-ltb}
use Rattle.repl_read.specs.Entries.{is_entry, is_head, are_items}
use Rattle.lab_num.specs.Name.{is_identifier}
use Rattle.repl_read.specs.Words.{is_dotted_name}
use Rattle.repl_read.specs.declared.entry.Entry.{Entry}
use Rattle.repl_read.specs.declared.entry.Head.{Head}
use Rattle.repl_read.specs.declared.entry.Head.TheVariants.{Using, Typed, Update}
use Rattle.sys_bus.specs.declared.plan.Named.{Named}
use Rattle.sys_bus.specs.declared.plan.NamedWhat.{NamedWhat}
use Rattle.sys_bus.specs.declared.plan.NamedWhat.TheVariants as what
use Rattle.sys_bus.specs.declared.region.RegionKind.{RegionKind}
use Rattle.sys_bus.specs.declared.region.RegionKind.TheVariants as part
use Rattle.sys_bus.specs.Name.{are_names, names_differ}
use Rattle.sys_bus.specs.Part.{is_part, names_part, has_no_others, has_region}
use Rattle.sys_bus.specs.Region.{same_part}
use Rattle.repl_build.specs.declared.merge.Peripheral.{Peripheral}
use Rattle.repl_build.specs.declared.types.PeripheralType.{PeripheralType}
use Rattle.repl_build.specs.declared.types.PeripheralType.TheVariants.{Cpu, Memory, Clint, Plic}
use Rattle.repl_build.specs.Counts.{count_of, first_with, has_type}
use Rattle.repl_build.specs.First.{first_fault}
use Rattle.repl_build.specs.Merge.{peripheral_by, peripheral_of, merged}
use Rattle.repl_build.specs.Names.{is_named, are_named, types_name, is_typed, repeats_name, repeated_in, repeated}
use Rattle.repl_build.specs.Numbers.{devices_of, what_of, is_device}
use Rattle.repl_build.specs.Plan.{each, name_by, name_of, region_by, region_of}
use Rattle.repl_build.specs.Types.{is_type}
use Rattle.repl_build.proofs.ListLemmas.{count_cons, count_append, all_append, NoneBefore}
use Rattle.repl_build.proofs.ListLemmas.{self_alone}
use Rattle.repl_build.proofs.NoneLemmas.{no_fault, first_none}
use Rattle.repl_build.proofs.RegionLemmas.{each_append, regions_pass}
use Rattle.repl_build.proofs.SoundLemmas.{Sound}
use Rattle.repl_build.proofs.WhatLemmas.{same_part_of, device_cons}

-- a test of each name
names_pass :
    (test : Named → Bool) (all before xs : List Peripheral) →
    ((before : List Peripheral) (p : Peripheral) (ps : List Peripheral) (o : Option NamedWhat) →
    all ≡ before ++ p ∷ ps → o ≡ what_of before p.kind → list_all test (name_by p.name o) ≡ true) →
    all ≡ before ++ xs → list_all test (each name_of before xs) ≡ true
names_pass test all before [] one whole = refl
names_pass test all before (p ∷ ps) one whole =
    all_append test (name_of before p) (each name_of (before ++ p ∷ []) ps)
    (one before p ps (what_of before p.kind) whole refl)
    (names_pass test all (before ++ p ∷ []) ps one (whole ∙ sym (append_assoc before (p ∷ []) ps)))

memory_before :
    (all before : List Peripheral) (p : Peripheral) (ps : List Peripheral) → all ≡ before ++ p ∷ ps →
    is_type Memory p.kind ≡ true → count_of before Memory < count_of all Memory
memory_before all before p ps whole is =
    let two = count_append (λ q. is_type Memory q.kind) before (p ∷ ps) in
    let three = count_cons (λ q. is_type Memory q.kind) p ps in
    let one : cond {A = ℕ} (is_type Memory p.kind) 1 0 ≡ 1 = rw is refl in
    let same = ap (λ ps. count_of ps Memory) whole in
    omega (arith, one, two, three, same)

device_before :
    (all before : List Peripheral) (p : Peripheral) (ps : List Peripheral) → all ≡ before ++ p ∷ ps →
    is_device p.kind ≡ true → devices_of before < devices_of all
device_before all before p ps whole is =
    let two = count_append (λ q. is_device q.kind) before (p ∷ ps) in
    let three = device_cons p ps in
    let one : cond {A = ℕ} (is_device p.kind) 1 0 ≡ 1 = rw is refl in
    let same = ap devices_of whole in
    omega (arith, one, two, three, same)

in_parts :
    (t : Option PeripheralType) (before : List Peripheral) (k : RegionKind) (m d : ℕ) →
    Some (what.Part k) ≡ what_of before t →
    (is_type Memory t ≡ true → count_of before Memory < m) → (is_device t ≡ true → devices_of before < d) →
    is_part m d k ≡ true
in_parts None before k m d is memory device = absurd (cc)
in_parts (Some Cpu) before k m d is memory device = absurd (cc)
in_parts (Some Memory) before k m d is memory device = rw (same_part_of _ _ is) (lt-ltb _ _ (memory refl))
in_parts (Some Clint) before k m d is memory device = rw (same_part_of _ _ is) refl
in_parts (Some Plic) before k m d is memory device = rw (same_part_of _ _ is) refl
in_parts _ before k m d is memory device = rw (same_part_of _ _ is) (lt-ltb _ _ (device refl))

part_one :
    (all before : List Peripheral) (p : Peripheral) (ps : List Peripheral) (k : RegionKind) → all ≡ before ++ p ∷ ps →
    Some (what.Part k) ≡ what_of before p.kind → is_part (count_of all Memory) (devices_of all) k ≡ true
part_one all before p ps k whole is =
    in_parts p.kind before k (count_of all Memory) (devices_of all) is (memory_before all before p ps whole)
    (device_before all before p ps whole)

name_part :
    (all before : List Peripheral) (p : Peripheral) (ps : List Peripheral) (o : Option NamedWhat) →
    all ≡ before ++ p ∷ ps →
    o ≡ what_of before p.kind →
    list_all (λ n. names_part (count_of all Memory) (devices_of all) n.what) (name_by p.name o) ≡ true
name_part all before p ps None whole is = refl
name_part all before p ps (Some what.Cpu) whole is = refl
name_part all before p ps (Some (what.Part k)) whole is = and_from _ _ (part_one all before p ps k whole is) refl

region_part :
    (all before : List Peripheral) (p : Peripheral) (ps : List Peripheral) (o : Option NamedWhat) →
    all ≡ before ++ p ∷ ps →
    o ≡ what_of before p.kind →
    list_all (λ region. is_part (count_of all Memory) (devices_of all) region.kind) (region_by p o) ≡ true
region_part all before p ps None whole is = refl
region_part all before p ps (Some what.Cpu) whole is = refl
region_part all before p ps (Some (what.Part k)) whole is = and_from _ _ (part_one all before p ps k whole is) refl

-- there is no further name or region
pub no_others :
    (all : List Peripheral) → Sound all [] all →
    has_no_others (each name_of [] all) (each region_of [] all) (count_of all Memory) (devices_of all) ≡ true
no_others all sound =
    and_from _ _ (names_pass _ all [] all (name_part all) refl)
    (regions_pass _ all [] all (λ before p ps o fits whole is. region_part all before p ps o whole is) refl sound)

-- a type that is there has a region
clint_region : (t : Option PeripheralType) (p : Peripheral) (before : List Peripheral) →
    has_region (region_by p (what_of before t)) part.Clint ≡ is_type Clint t
clint_region None p before = refl
clint_region (Some Cpu) p before = refl
clint_region _ p before = refl

type_there :
    (k : PeripheralType) (part : RegionKind) →
    ((t : Option PeripheralType) (p : Peripheral) (before : List Peripheral) →
    has_region (region_by p (what_of before t)) part ≡ is_type k t) → (before xs : List Peripheral) →
    has_region (each region_of before xs) part ≡ has_type k xs
type_there k part one before [] = refl
type_there k part one before (p ∷ ps) =
    list_any-append (λ region. same_part region.kind part) (region_of before p) (each region_of (before ++ p ∷ []) ps)
    ∙ (rw (one p.kind p before, type_there k part one (before ++ p ∷ []) ps) refl)

pub clint_there : (before xs : List Peripheral) → has_region (each region_of before xs) part.Clint ≡ has_type Clint xs
clint_there = type_there Clint part.Clint clint_region

plic_region : (t : Option PeripheralType) (p : Peripheral) (before : List Peripheral) →
    has_region (region_by p (what_of before t)) part.Plic ≡ is_type Plic t
plic_region None p before = refl
plic_region (Some Cpu) p before = refl
plic_region _ p before = refl

pub plic_there : (before xs : List Peripheral) → has_region (each region_of before xs) part.Plic ≡ has_type Plic xs
plic_there = type_there Plic part.Plic plic_region

pub found_type :
    {X : Type 0} (f : Peripheral → X) (k : PeripheralType) (xs : List Peripheral) →
    is_some (option_map f (first_with k xs)) ≡ has_type k xs
found_type f k [] = refl
found_type {X} f k (p ∷ ps) =
    elim (is_type k p.kind) as (λ b. is_some (option_map f (cond {A = Option Peripheral} b (Some p)
    (first_with k ps)))
    ≡ (b || has_type k ps)) [ true ↦ refl | false ↦ found_type f k ps ]

-- names
abbrev same_name : Named → Named → Bool
same_name a b = bytes_eq b.name a.name

abbrev pub called_same : Peripheral → Peripheral → Bool
called_same a b = bytes_eq b.name a.name

pub bytes_eq_comm : (xs ys : List ℕ) → bytes_eq xs ys ≡ bytes_eq ys xs
bytes_eq_comm xs ys =
    elim (bytes_eq xs ys) as (λ b. bytes_eq xs ys ≡ b → b ≡ bytes_eq ys xs) [
      | true ↦ λ is. sym ((bytes_eq-Decides ys xs).1 (sym ((bytes_eq-Decides xs ys).0 is)))
      | false ↦ λ differ.
          elim (bytes_eq ys xs) as (λ c. bytes_eq ys xs ≡ c → false ≡ c) [
            | true ↦ λ is.
                let same = (bytes_eq-Decides xs ys).1 (sym ((bytes_eq-Decides ys xs).0 is)) in
                absurd (cc)
            | false ↦ λ is. refl
          ] refl
    ] refl

other_name : (p : Peripheral) (name : List ℕ) (o : Option NamedWhat) (n : Named) → n.name ≡ p.name →
    bytes_eq name p.name ≡ false → list_any (same_name n) (name_by name o) ≡ false
other_name p name None n is differ = refl
other_name p name (Some what) n is differ =
    let same : bytes_eq name n.name ≡ false = rw is differ in rw same refl

other_names : (p : Peripheral) (n : Named) → n.name ≡ p.name → (before xs : List Peripheral) →
    list_any (called_same p) xs ≡ false → list_any (same_name n) (each name_of before xs) ≡ false
other_names p n is before [] none = refl
other_names p n is before (q ∷ qs) none =
    let parts = or_parts (called_same p q) (list_any (called_same p) qs) none in
    let one = other_name p q.name (what_of before q.kind) n is parts.0 in
    let rest = other_names p n is (before ++ q ∷ []) qs parts.1 in
    list_any-append (same_name n) (name_of before q) (each name_of (before ++ q ∷ []) qs) ∙ (rw (one, rest) refl)

put_name :
    (p : Peripheral) (o : Option NamedWhat) (before rest : List Named) →
    ((n : Named) → n.name ≡ p.name → list_any (same_name n) before ≡ false) →
    NoneBefore same_name (before ++ name_by p.name o) rest → NoneBefore same_name before (name_by p.name o ++ rest)
put_name p None before rest none later = subst (λ b. NoneBefore same_name b rest) (append-nil before) later
put_name p (Some what) before rest none later =
    let n : Named = record { name = p.name; what = what } in
    (none n refl, later)

none_same :
    (before xs : List Peripheral) → NoneBefore called_same before xs →
    NoneBefore same_name (each name_of [] before) (each name_of before xs)
none_same before [] none = tt
none_same before (p ∷ ps) none =
    let last : each name_of [] (before ++ p ∷ []) ≡ each name_of [] before ++ name_of before p =
    each_append name_of [] before (p ∷ []) ∙ ap (λ more. each name_of [] before ++ more) (append-nil
    (name_of before p)) in
    put_name p (what_of before p.kind) (each name_of [] before) (each name_of (before ++ p ∷ []) ps)
    (λ n is. other_names p n is [] before none.0)
    (subst (λ b. NoneBefore same_name b (each name_of (before ++ p ∷ []) ps)) last (none_same
    (before ++ p ∷ []) ps none.1))

-- each name stands there once
pub differ : (all : List Peripheral) → NoneBefore called_same [] all → names_differ (each name_of [] all) ≡ true
differ all none =
    let names = each name_of [] all in
    self_alone same_name (λ a b. bytes_eq_comm b.name a.name)
    (λ n. count_by (λ other. bytes_eq other.name n.name) names == 1) [] names names
    (λ n is. once (count_by (same_name n) names) (bytes_eq n.name n.name) is
    ((bytes_eq-Decides n.name n.name).1 refl)) refl
    (none_same [] all none)
  where
    once : (n : ℕ) (b : Bool) → n ≡ cond {A = ℕ} b 1 0 → b ≡ true → (n == 1) ≡ true
    once n true is same = rw is refl
    once n false is same = absurd (cc)

typed_before :
    (all before : List Entry) (name : List ℕ) →
    list_any (λ p. bytes_eq p.name name) (flat_map (peripheral_of all) before) ≡ is_typed before name
typed_before all [] name = refl
typed_before all (e ∷ es) name =
    list_any-append (λ p. bytes_eq p.name name) (peripheral_of all e) (flat_map (peripheral_of all) es)
    ∙ (rw (one e.head, typed_before all es name) refl)
  where
    one : (head : Head) → list_any (λ p. bytes_eq p.name name) (peripheral_by all e head) ≡ types_name name head
    one (Using file) = refl
    one (Update n) = refl
    one (Typed n kind at) = elim (bytes_eq n name) as (λ b. (b || false) ≡ b) [ true ↦ refl | false ↦ refl ]

put_entry :
    (all before : List Entry) (e : Entry) (head : Head) (rest : List Peripheral) → repeats_name before head ≡ false →
    NoneBefore called_same (flat_map (peripheral_of all) before ++ peripheral_by all e head) rest →
    NoneBefore called_same (flat_map (peripheral_of all) before) (peripheral_by all e head ++ rest)
put_entry all before e (Using file) rest none later = subst (λ b. NoneBefore called_same b rest) (append-nil _) later
put_entry all before e (Update n) rest none later = subst (λ b. NoneBefore called_same b rest) (append-nil _) later
put_entry all before e (Typed n kind at) rest none later = (typed_before all before n ∙ none, later)

distinct_from :
    (all before xs : List Entry) → first_fault repeated_in before xs ≡ None →
    NoneBefore called_same (flat_map (peripheral_of all) before) (flat_map (peripheral_of all) xs)
distinct_from all before [] none = tt
distinct_from all before (e ∷ es) none =
    let parts = first_none _ _ none in
    let here = no_fault (repeats_name before e.head) _ (first_none _ _ parts.0).0 in
    let last : flat_map (peripheral_of all) (before ++ e ∷ []) ≡ flat_map
    (peripheral_of all) before ++ peripheral_of all e =
    flat_map-append (peripheral_of all) before (e ∷ [])
    ∙ ap (λ more. flat_map (peripheral_of all) before ++ more) (append-nil (peripheral_of all e)) in
    put_entry all before e e.head (flat_map (peripheral_of all) es) here
    (subst (λ b. NoneBefore called_same b (flat_map (peripheral_of all) es)) last (distinct_from all
    (before ++ e ∷ []) es parts.1))

pub distinct : (entries : List Entry) → repeated entries ≡ None → NoneBefore called_same [] (merged entries)
distinct entries none = distinct_from entries [] entries none

-- names have their form
good_entry :
    (all : List Entry) (e : Entry) (head : Head) → is_named head ≡ true →
    list_all (λ p. is_identifier p.name) (peripheral_by all e head) ≡ true
good_entry all e (Using file) good = refl
good_entry all e (Update n) good = refl
good_entry all e (Typed n kind at) good = and_from _ _ good refl

good_merged : (all xs : List Entry) → are_named xs ≡ true →
    list_all (λ p. is_identifier p.name) (flat_map (peripheral_of all) xs) ≡ true
good_merged all [] good = refl
good_merged all (e ∷ es) good =
    let parts = and_parts (is_named e.head) (are_named es) good in
    all_append _ (peripheral_of all e) (flat_map (peripheral_of all) es)
    (good_entry all e e.head parts.0) (good_merged all es parts.1)

good_names : (before xs : List Peripheral) → list_all (λ p. is_identifier p.name) xs ≡ true →
    are_names (each name_of before xs) ≡ true
good_names before [] good = refl
good_names before (p ∷ ps) good =
    let parts = and_parts (is_identifier p.name) (list_all (λ p. is_identifier p.name) ps) good in
    all_append _ (name_of before p) (each name_of (before ++ p ∷ []) ps) (one (what_of before p.kind) parts.0)
    (good_names (before ++ p ∷ []) ps parts.1)
  where
    one : (o : Option NamedWhat) → is_identifier p.name ≡ true → are_names (name_by p.name o) ≡ true
    one None good = refl
    one (Some what) good = and_from _ _ good refl

pub names_good : (entries : List Entry) → are_named entries ≡ true →
    are_names (each name_of [] (merged entries)) ≡ true
names_good entries good = good_names [] (merged entries) (good_merged entries entries good)

-- entries of a text are named
pub text_named : (entries : List Entry) → list_all is_entry entries ≡ true → are_named entries ≡ true
text_named [] good = refl
text_named (e ∷ es) good =
    let parts = and_parts (is_entry e) (list_all is_entry es) good in
    and_from (is_named e.head) (are_named es) (head_named e.head (and_parts (is_head e.head) (are_items e.items)
    parts.0).0) (text_named es parts.1)
  where
    head_named : (head : Head) → is_head head ≡ true → is_named head ≡ true
    head_named (Using file) good = refl
    head_named (Update n) good = refl
    head_named (Typed n kind at) good = (and_parts (is_identifier n) (is_dotted_name kind) good).0
