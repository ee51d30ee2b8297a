-- How many names and regions a part of the board has.
use Rattle.std.proofs.Common.{◌≡◌, ℕ, ◌+◌, ◌<◌, ◌≤◌, ◌==◌, ◌∙◌, Bool, true, false, refl, sym, List, [], ◌∷◌, ◌++◌}
use Rattle.std.proofs.Common.{if◌then◌else◌, arith, Option, None, Some, append_assoc, cond}
use Rattle.std.proofs.lemmas.Bool.Decides.{nat_tests}
use Rattle.std.proofs.lemmas.List.{append-nil}
use Rattle.sys_bus.specs.declared.plan.NamedWhat.{NamedWhat}
use Rattle.sys_bus.specs.declared.plan.NamedWhat.TheVariants as what
use Rattle.sys_bus.specs.declared.region.RegionKind.{RegionKind}
use Rattle.sys_bus.specs.declared.region.RegionKind.TheVariants as part
use Rattle.sys_bus.specs.Part.{names_of, regions_of}
use Rattle.sys_bus.specs.Region.{same_part}
use Rattle.repl_build.specs.declared.merge.Peripheral.{Peripheral}
use Rattle.repl_build.specs.declared.types.PeripheralType.{PeripheralType}
use Rattle.repl_build.specs.declared.types.PeripheralType.TheVariants.{Cpu, Memory, Clint, Plic}
use Rattle.repl_build.specs.Counts.{count_of}
use Rattle.repl_build.specs.Numbers.{devices_of, what_of, is_device}
use Rattle.repl_build.specs.Plan.{each, name_by, name_of, region_by, region_of}
use Rattle.repl_build.specs.Types.{is_type}
use Rattle.repl_build.proofs.ListLemmas.{count_push, count_append, count_cons}

-- whether a peripheral is the part
abbrev pub hit : RegionKind → Option NamedWhat → ℕ
hit part None = 0
hit part (Some what.Cpu) = 0
hit part (Some (what.Part k)) = if same_part k part then 1 else 0

abbrev pub hits : RegionKind → List Peripheral → List Peripheral → ℕ
hits part before [] = 0
hits part before (p ∷ ps) = hit part (what_of before p.kind) + hits part (before ++ p ∷ []) ps

named_hit : (part : RegionKind) (name : List ℕ) (o : Option NamedWhat) → names_of (name_by name o) part ≡ hit part o
named_hit part name None = refl
named_hit part name (Some what.Cpu) = refl
named_hit part name (Some (what.Part k)) =
    elim (same_part k part) as (λ b. 0 + cond {A = ℕ} b 1 0 ≡ cond {A = ℕ} b 1 0) [ true ↦ refl | false ↦ refl ]

region_hit : (part : RegionKind) (p : Peripheral) (o : Option NamedWhat) →
    regions_of (region_by p o) part ≡ hit part o
region_hit part p None = refl
region_hit part p (Some what.Cpu) = refl
region_hit part p (Some (what.Part k)) =
    elim (same_part k part) as (λ b. 0 + cond {A = ℕ} b 1 0 ≡ cond {A = ℕ} b 1 0) [ true ↦ refl | false ↦ refl ]

-- sums of parts
pub split : (a b c h r : ℕ) → a ≡ b + c → b ≡ h → c ≡ r → a ≡ h + r
split a b c h r whole one two = omega arith

-- a part has as many names as peripherals that are it
pub names_hits :
    (part : RegionKind) (before xs : List Peripheral) → names_of (each name_of before xs) part ≡ hits part before xs
names_hits part before [] = refl
names_hits part before (p ∷ ps) =
    split _ _ _ _ _ (count_append _ (name_of before p) (each name_of (before ++ p ∷ []) ps))
    (named_hit part p.name (what_of before p.kind)) (names_hits part (before ++ p ∷ []) ps)

-- and as many regions
pub regions_hits :
    (part : RegionKind) (before xs : List Peripheral) →
    regions_of (each region_of before xs) part ≡ hits part before xs
regions_hits part before [] = refl
regions_hits part before (p ∷ ps) =
    split _ _ _ _ _ (count_append _ (region_of before p) (each region_of (before ++ p ∷ []) ps))
    (region_hit part p (what_of before p.kind)) (regions_hits part (before ++ p ∷ []) ps)

-- peripherals that are numbered by those of their sort before them
pub record IsNumbering (count : List Peripheral → ℕ) (part : ℕ → RegionKind) (is : Option PeripheralType →
    Bool) : Type 0 where
  pub empty : count [] ≡ 0
  pub push : (before : List Peripheral) (p : Peripheral) →
      count (before ++ p ∷ []) ≡ count before + (if is p.kind then 1 else 0)
  pub numbered : (before : List Peripheral) (o : Option PeripheralType) (i : ℕ) →
      hit (part i) (what_of before o) ≡ (if is o then (if count before == i then 1 else 0) else 0)

above : (c i : ℕ) → i < c → cond {A = ℕ} (c == i) 1 0 ≡ 0
above c i low = let no : (c == i) ≡ false = grind (arith, nat_tests) in rw no refl

none_later :
    (count : List Peripheral → ℕ) (part : ℕ → RegionKind) (is : Option PeripheralType → Bool) →
    IsNumbering count part is → (i : ℕ) (before xs : List Peripheral) → i < count before → hits (part i) before xs ≡ 0
none_later count part is n i before [] low = refl
none_later count part is n i before (p ∷ ps) low =
    let push = n.push before p in
    let later = none_later count part is n i (before ++ p ∷ []) ps (omega (arith, push, low)) in
    let here : hit (part i) (what_of before p.kind) ≡ 0 =
    n.numbered before p.kind i
    ∙ (elim (is p.kind) as (λ b. cond {A = ℕ} b (cond {A = ℕ} (count before == i) 1 0) 0 ≡ 0) [
      | true ↦ above (count before) i low
      | false ↦ refl
    ]) in
    omega (arith, here, later)

-- each number up to the count of all is that of one peripheral
pub one_each :
    (count : List Peripheral → ℕ) (part : ℕ → RegionKind) (is : Option PeripheralType → Bool) →
    IsNumbering count part is → (i : ℕ) (before xs : List Peripheral) → count before ≤ i → i < count (before ++ xs) →
    hits (part i) before xs ≡ 1
one_each count part is n i before [] low high =
    let end : i < count before = rw (← append-nil before) high in
    absurd (omega (arith, low, end))
one_each count part is n i before (p ∷ ps) low high =
    let push = n.push before p in
    let whole : i < count ((before ++ p ∷ []) ++ ps) = rw (append_assoc before (p ∷ []) ps) high in
    let here = n.numbered before p.kind i in
    elim (is p.kind) as (λ b. count (before ++ p ∷ []) ≡ count before + (if b then 1 else 0) →
    hit (part i) (what_of before p.kind) ≡ (if b then (if count before == i then 1 else 0) else 0) →
    hit (part i) (what_of before p.kind) + hits (part i) (before ++ p ∷ []) ps ≡ 1) [
      | true ↦ λ push here.
          elim (count before == i) as (λ e. (count before == i) ≡ e →
          hit (part i) (what_of before p.kind) ≡ (if e then 1 else 0) →
          hit (part i) (what_of before p.kind) + hits (part i) (before ++ p ∷ []) ps ≡ 1) [
            | true ↦ λ same here.
                let low : i < count (before ++ p ∷ []) = grind (arith, nat_tests) in
                let later = none_later count part is n i (before ++ p ∷ []) ps low in
                omega (arith, here, later)
            | false ↦ λ differ here.
                let low : count (before ++ p ∷ []) ≤ i = grind (arith, nat_tests) in
                let later = one_each count part is n i (before ++ p ∷ []) ps low whole in
                omega (arith, here, later)
          ] refl here
      | false ↦ λ push here.
          let later = one_each count part is n i (before ++ p ∷ []) ps (omega (arith, push, low)) whole in
          omega (arith, here, later)
    ] push here

memory_hit :
    (before : List Peripheral) (o : Option PeripheralType) (i : ℕ) →
    hit (part.Ram i) (what_of before o) ≡ (if is_type Memory o then
    (if count_of before Memory == i then 1 else 0) else 0)
memory_hit before None i = refl
memory_hit before (Some Cpu) i = refl
memory_hit before _ i = refl

pub memories_numbered : IsNumbering (λ ps. count_of ps Memory) part.Ram (is_type Memory)
memories_numbered =
    record {
      empty = refl;
      push = λ before p. count_push
          (λ q. is_type Memory q.kind) before p;
      numbered = memory_hit;
    }

device_hit :
    (before : List Peripheral) (o : Option PeripheralType) (i : ℕ) →
    hit (part.Dev i) (what_of before o) ≡ (if is_device o then (if devices_of before == i then 1 else 0) else 0)
device_hit before None i = refl
device_hit before (Some Cpu) i = refl
device_hit before _ i = refl

device_push : (before : List Peripheral) (p : Peripheral) →
    devices_of (before ++ p ∷ []) ≡ devices_of before + (if is_device p.kind then 1 else 0)
device_push before p = count_push (λ q. is_device q.kind) before p

pub devices_numbered : IsNumbering devices_of part.Dev is_device
devices_numbered = record { empty = refl; push = device_push; numbered = device_hit }

clint_hit : (before : List Peripheral) (o : Option PeripheralType) →
    hit part.Clint (what_of before o) ≡ (if is_type Clint o then 1 else 0)
clint_hit before None = refl
clint_hit before (Some Cpu) = refl
clint_hit before _ = refl

plic_hit : (before : List Peripheral) (o : Option PeripheralType) →
    hit part.Plic (what_of before o) ≡ (if is_type Plic o then 1 else 0)
plic_hit before None = refl
plic_hit before (Some Cpu) = refl
plic_hit before _ = refl

pub clint_hits : (before xs : List Peripheral) → hits part.Clint before xs ≡ count_of xs Clint
clint_hits before [] = refl
clint_hits before (p ∷ ps) =
    sym (split _ _ _ _ _ (count_cons (λ q. is_type Clint q.kind) p ps) (sym (clint_hit before p.kind))
    (sym (clint_hits (before ++ p ∷ []) ps)))

pub plic_hits : (before xs : List Peripheral) → hits part.Plic before xs ≡ count_of xs Plic
plic_hits before [] = refl
plic_hits before (p ∷ ps) =
    sym (split _ _ _ _ _ (count_cons (λ q. is_type Plic q.kind) p ps) (sym (plic_hit before p.kind))
    (sym (plic_hits (before ++ p ∷ []) ps)))
