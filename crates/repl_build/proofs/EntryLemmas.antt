-- What the entries with types tell, and what a plan has.
use Rattle.std.proofs.Common.{◌≡◌, ◌∙◌, ℕ, true, false, refl, sym, ap, List, [], ◌∷◌, ◌++◌, map, append_assoc}
use Rattle.std.proofs.Common.{Option, None, Some, Ok, is_none, slice_get, cond}
use Rattle.std.proofs.lemmas.Grind.{flat_map-append}
use Rattle.std.proofs.lemmas.List.{append-nil, map-append}
use Rattle.std.specs.List.{flat_map}
use Rattle.dev_core.specs.declared.kind.Kind.{Kind}
use Rattle.repl_read.specs.declared.entry.Entry.{Entry}
use Rattle.repl_read.specs.declared.entry.Head.{Head}
use Rattle.repl_read.specs.declared.entry.Head.TheVariants.{Using, Typed, Update}
use Rattle.repl_read.specs.declared.entry.Place.{Place}
use Rattle.repl_read.specs.declared.entry.Place.TheVariants.{Bus, Address, Range}
use Rattle.sys_bus.specs.declared.plan.BoardPlan.{BoardPlan}
use Rattle.sys_bus.specs.declared.plan.NamedWhat.{NamedWhat}
use Rattle.sys_bus.specs.declared.plan.NamedWhat.TheVariants as what
use Rattle.repl_build.specs.declared.merge.Peripheral.{Peripheral}
use Rattle.repl_build.specs.declared.types.PeripheralType.{PeripheralType}
use Rattle.repl_build.specs.declared.types.PeripheralType.TheVariants.{Cpu, Device}
use Rattle.repl_build.specs.Laws.{typed_name, typed_type, processor_name, place_at, typed_place, place_in, part_of}
use Rattle.repl_build.specs.Laws.{type_by, type_in}
use Rattle.repl_build.specs.Merge.{peripheral_by, peripheral_of, merged}
use Rattle.repl_build.specs.Numbers.{devices_of, what_of, is_device}
use Rattle.repl_build.specs.Places.{is_registered}
use Rattle.repl_build.specs.Plan.{each, name_by, name_of, region_by, region_of, kinds_of, kind_by, built}
use Rattle.repl_build.specs.Processors.{cpus_of}
use Rattle.repl_build.specs.Types.{is_type}
use Rattle.repl_build.proofs.ProcessorLemmas.{cpus_cons}
use Rattle.repl_build.proofs.SoundLemmas.{Fits, Sound, sound}
use Rattle.repl_build.proofs.ValidLemmas.{made}
use Rattle.repl_build.proofs.WhatLemmas.{kind_at}

-- what each peripheral gives, told by the peripherals
each_tells :
    {X Y : Type 0} (g : X → Y) (f : List Peripheral → Peripheral → List X) (told : Peripheral → List Y)
    (all before xs : List Peripheral) →
    ((before : List Peripheral) (p : Peripheral) (ps : List Peripheral) → Fits all before p → all ≡ before ++ p ∷ ps →
    map g (f before p) ≡ told p) → all ≡ before ++ xs → Sound all before xs →
    map g (each f before xs) ≡ flat_map told xs
each_tells g f told all before [] one whole sound = refl
each_tells g f told all before (p ∷ ps) one whole sound =
    let here = one before p ps sound.0 whole in
    let later = each_tells g f told all (before ++ p ∷ []) ps one (whole ∙ sym (append_assoc before (p ∷ []) ps))
    sound.1 in
    map-append g (f before p) (each f (before ++ p ∷ []) ps) ∙ (rw (here, later) refl)

-- what the peripherals tell, told by the entries
pub entries_tell :
    {Y : Type 0} (told : Peripheral → List Y) (said : Entry → List Y) (all xs : List Entry) →
    ((e : Entry) → flat_map told (peripheral_of all e) ≡ said e) →
    flat_map told (flat_map (peripheral_of all) xs) ≡ flat_map said xs
entries_tell told said all [] one = refl
entries_tell told said all (e ∷ es) one =
    flat_map-append told (peripheral_of all e) (flat_map (peripheral_of all) es)
    ∙ (rw (one e, entries_tell told said all es one) refl)

-- names
name_one : (t : Option PeripheralType) (name : List ℕ) (before : List Peripheral) → is_none t ≡ false →
    map (λ n. n.name) (name_by name (what_of before t)) ≡ name ∷ []
name_one None name before known = absurd (cc)
name_one (Some Cpu) name before known = refl
name_one _ name before known = refl

name_said : (all : List Entry) (e : Entry) (head : Head) →
    flat_map (λ p. p.name ∷ []) (peripheral_by all e head) ≡ typed_name head
name_said all e (Typed name type_name at) = refl
name_said all e (Using file) = refl
name_said all e (Update name) = refl

pub names_told : (entries : List Entry) (plan : BoardPlan) → built entries ≡ Ok plan →
    map (λ n. n.name) plan.names ≡ flat_map (λ e. typed_name e.head) entries
names_told entries plan is =
    let made = made entries plan is in
    let all = merged entries in
    rw (← made.is)
    (each_tells (λ n. n.name) name_of (λ p. p.name ∷ []) all [] all
    (λ before p ps fits whole. name_one p.kind p.name before fits.known) refl (sound all made.keeps)
    ∙ entries_tell (λ p. p.name ∷ []) (λ e. typed_name e.head) entries entries
    (λ e. name_said entries e e.head))

-- types
type_one : (t : Option PeripheralType) (name : List ℕ) (before : List Peripheral) (kinds : List Kind) →
    is_none t ≡ false → (is_device t ≡ true → slice_get kinds (devices_of before) ≡ kind_by t) →
    map (λ n. type_in kinds n.what) (name_by name (what_of before t)) ≡ t ∷ []
type_one None name before kinds known found = absurd (cc)
type_one (Some (Device device)) name before kinds known found = ap (λ kind. type_by kind ∷ []) (found refl)
type_one _ name before kinds known found = refl

type_said : (all : List Entry) (e : Entry) (head : Head) →
    flat_map (λ p. p.kind ∷ []) (peripheral_by all e head) ≡ typed_type head
type_said all e (Typed name type_name at) = refl
type_said all e (Using file) = refl
type_said all e (Update name) = refl

pub types_told : (entries : List Entry) (plan : BoardPlan) → built entries ≡ Ok plan →
    map (λ n. type_in plan.kinds n.what) plan.names ≡ flat_map (λ e. typed_type e.head) entries
types_told entries plan is =
    let made = made entries plan is in
    let all = merged entries in
    rw (← made.is)
    (each_tells (λ n. type_in (kinds_of all) n.what) name_of (λ p. p.kind ∷ []) all [] all
    (λ before p ps fits whole. type_one p.kind p.name before (kinds_of all) fits.known
    (λ device. ap (λ ps. slice_get (kinds_of ps) (devices_of before)) whole ∙ kind_at before p ps device))
    refl (sound all made.keeps)
    ∙ entries_tell (λ p. p.kind ∷ []) (λ e. typed_type e.head) entries entries
    (λ e. type_said entries e e.head))

-- processors
abbrev told_processor : Peripheral → List (List ℕ)
told_processor p = cond {A = List (List ℕ)} (is_type Cpu p.kind) (p.name ∷ []) []

cpus_told : (all : List Peripheral) → cpus_of all ≡ flat_map told_processor all
cpus_told [] = refl
cpus_told (p ∷ ps) = cpus_cons p ps ∙ ap (λ rest. told_processor p ++ rest) (cpus_told ps)

processor_said : (all : List Entry) (e : Entry) (head : Head) →
    flat_map told_processor (peripheral_by all e head) ≡ processor_name head
processor_said all e (Typed name type_name at) = append-nil _
processor_said all e (Using file) = refl
processor_said all e (Update name) = refl

pub processors_told : (entries : List Entry) (plan : BoardPlan) → built entries ≡ Ok plan →
    plan.cpus ≡ flat_map (λ e. processor_name e.head) entries
processors_told entries plan is =
    let made = made entries plan is in
    let all = merged entries in
    rw (← made.is)
    (cpus_told all
    ∙ entries_tell told_processor (λ e. processor_name e.head) entries entries (λ e. processor_said entries e e.head))

-- places
place_one :
    (t : Option PeripheralType) (at : Place) (p : Peripheral) (before : List Peripheral) → p.kind ≡ t → p.at ≡ at →
    is_none t ≡ false → is_registered t at ≡ true →
    map place_in (region_by p (what_of before t)) ≡ place_at t p.items at
place_one None at p before kind stands known registered = absurd (cc)
place_one (Some Cpu) Bus p before kind stands known registered = refl
place_one (Some Cpu) at p before kind stands known registered = absurd (cc)
place_one t (Address base) p before kind stands known registered = rw (kind, stands) refl
place_one t (Range base size) p before kind stands known registered = rw (kind, stands) refl
place_one t at p before kind stands known registered = absurd (cc)

place_said : (all : List Entry) (e : Entry) (head : Head) →
    flat_map (λ p. place_at p.kind p.items p.at) (peripheral_by all e head) ≡ typed_place all e head
place_said all e (Typed name type_name at) = append-nil _
place_said all e (Using file) = refl
place_said all e (Update name) = refl

pub places_told : (entries : List Entry) (plan : BoardPlan) → built entries ≡ Ok plan →
    map place_in plan.regions ≡ flat_map (λ e. typed_place entries e e.head) entries
places_told entries plan is =
    let made = made entries plan is in
    let all = merged entries in
    rw (← made.is)
    (each_tells place_in region_of (λ p. place_at p.kind p.items p.at) all [] all
    (λ before p ps fits whole. place_one p.kind p.at p before refl refl fits.known fits.registered)
    refl (sound all made.keeps)
    ∙ entries_tell (λ p. place_at p.kind p.items p.at) (λ e. typed_place entries e e.head) entries entries
    (λ e. place_said entries e e.head))

-- parts
part_one : (p : Peripheral) (o : Option NamedWhat) →
    map (λ r. r.kind) (region_by p o) ≡ flat_map part_of (name_by p.name o)
part_one p None = refl
part_one p (Some what.Cpu) = refl
part_one p (Some (what.Part part)) = refl

parts_same : (before xs : List Peripheral) →
    map (λ r. r.kind) (each region_of before xs) ≡ flat_map part_of (each name_of before xs)
parts_same before [] = refl
parts_same before (p ∷ ps) =
    let here = part_one p (what_of before p.kind) in
    let later = parts_same (before ++ p ∷ []) ps in
    map-append (λ r. r.kind) (region_of before p) (each region_of (before ++ p ∷ []) ps)
    ∙ (rw (here, later) (sym (flat_map-append part_of (name_of before p) (each name_of (before ++ p ∷ []) ps))))

pub parts_told : (entries : List Entry) (plan : BoardPlan) → built entries ≡ Ok plan →
    map (λ r. r.kind) plan.regions ≡ flat_map part_of plan.names
parts_told entries plan is =
    let made = made entries plan is in
    rw (← made.is) (parts_same [] (merged entries))
