-- Wires that are given are wires that a board may have.
use Rattle.std.proofs.Common.{◌≡◌, ℕ, ◌==◌, ◌∙◌, Bool, true, false, ◌&&◌, ◌||◌, refl, sym, ap, List, [], ◌∷◌, ◌++◌}
use Rattle.std.proofs.Common.{Option}
use Rattle.std.proofs.Common.{None, Some, Result, Ok, Err, cond, slice_get, append_assoc, length}
use Rattle.std.specs.List.{list_all}
use Rattle.std.proofs.lemmas.Bool.{and_from}
use Rattle.std.proofs.lemmas.Option.{same_Some}
use Rattle.dev_core.specs.Kind.{row_of}
use Rattle.dev_core.specs.declared.kind.Kind.{Kind}
use Rattle.repl_read.specs.declared.entry.ItemWhat.{ItemWhat}
use Rattle.repl_read.specs.declared.entry.ItemWhat.TheVariants as item
use Rattle.repl_read.specs.declared.fault.PlatFault.{PlatFault}
use Rattle.sys_bus.specs.declared.plan.PlicSize.{PlicSize}
use Rattle.sys_bus.specs.declared.region.Region.{Region}
use Rattle.sys_bus.specs.declared.region.RegionKind.TheVariants as part
use Rattle.sys_bus.specs.declared.wire.Wire.{Wire}
use Rattle.sys_bus.specs.declared.wire.WireFrom.{WireFrom}
use Rattle.sys_bus.specs.declared.wire.WireFrom.TheVariants.{Soft, Timer, Context, Dev}
use Rattle.sys_bus.specs.declared.wire.WirePin.{WirePin}
use Rattle.sys_bus.specs.Part.{has_region}
use Rattle.sys_bus.specs.Wire.{is_context, has_line, kind_has_line, is_from, may_end, are_wires}
use Rattle.repl_build.specs.declared.merge.Peripheral.{Peripheral}
use Rattle.repl_build.specs.declared.merge.PlacedItem.{PlacedItem}
use Rattle.repl_build.specs.declared.types.PeripheralType.{PeripheralType}
use Rattle.repl_build.specs.declared.types.PeripheralType.TheVariants.{Cpu, Clint, Plic, Device}
use Rattle.repl_build.specs.Counts.{count_of, has_type}
use Rattle.repl_build.specs.First.{◌>>=◌}
use Rattle.repl_build.specs.Numbers.{devices_of, is_device}
use Rattle.repl_build.specs.Plan.{each, region_of, kinds_of, kind_by, plic_of, wires_from, wires_of}
use Rattle.repl_build.specs.Processors.{cpus_of, hart_of}
use Rattle.repl_build.specs.Types.{is_type}
use Rattle.repl_build.specs.Wires.{ends_of, line_of, pin_by, wire_by, wire_at, in_front, wired, wired_ends, has_ends}
use Rattle.repl_build.specs.Wires.{item_wires, wires_or, placed_wires, items_wires}
use Rattle.repl_build.proofs.ListLemmas.{all_append}
use Rattle.repl_build.proofs.NameLemmas.{clint_there}
use Rattle.repl_build.proofs.ProcessorLemmas.{cpus_count}
use Rattle.repl_build.proofs.WhatLemmas.{kind_at}

-- a step of a `do` block that gives a value
pub ok_then :
    {A B : Type 0} (r : Result A PlatFault) (f : A → Result B PlatFault) (y : B) → (r >>= f) ≡ Ok y →
    (x : A) × ((r ≡ Ok x) × (f x ≡ Ok y))
ok_then (Ok x) f y is = (x, (refl, is))
ok_then (Err fault) f y is = absurd (cc)

pub same_ok : {A : Type 0} (x y : A) → (let r : Result A PlatFault = Ok x in r) ≡ Ok y → x ≡ y
same_ok x y is = cc

abbrev good : List Kind → List Region → Option PlicSize → ℕ → Wire → Bool
good kinds regions plic n wire = is_from kinds regions plic wire.from && may_end plic n wire.from wire.pin

-- what begins at a line that is there
abbrev LinesAre : List Kind → List Region → Option PlicSize → Option PeripheralType → ℕ → Type 0
LinesAre kinds regions plic t dev =
    (line : ℕ) (from : WireFrom) → line_of plic t dev line ≡ Some from → is_from kinds regions plic from ≡ true

wire_good :
    (kinds : List Kind) (regions : List Region) (plic : Option PlicSize) (n : ℕ) (o : Option WireFrom) (pin : WirePin)
    (wire : Wire) →
    ((from : WireFrom) → o ≡ Some from → is_from kinds regions plic from ≡ true) → wire_by plic n o pin ≡ Some wire →
    good kinds regions plic n wire ≡ true
wire_good kinds regions plic n None pin wire lines is = absurd (cc)
wire_good kinds regions plic n (Some from) pin wire lines is =
    elim (may_end plic n from pin) as (λ b. may_end plic n from pin ≡ b →
    cond {A = Option Wire} b (Some (record { from = from; pin = pin })) None ≡ Some wire →
    good kinds regions plic n wire ≡ true) [
      | true ↦ λ ends is.
          let same = same_Some _ _ is in
          rw (← same) (and_from (is_from kinds regions plic from) (may_end plic n from pin) (lines from refl) ends)
      | false ↦ λ ends is. absurd (cc)
    ] refl is

put_wire :
    (test : Wire → Bool) (o : Option Wire) (more : Option (List Wire)) (wires : List Wire) →
    ((wire : Wire) → o ≡ Some wire → test wire ≡ true) → ((ws : List Wire) → more ≡ Some ws →
    list_all test ws ≡ true) →
    in_front o more ≡ Some wires → list_all test wires ≡ true
put_wire test None more wires one rest is = absurd (cc)
put_wire test (Some wire) None wires one rest is = absurd (cc)
put_wire test (Some wire) (Some ws) wires one rest is =
    let same = same_Some _ _ is in
    rw (← same) (and_from (test wire) (list_all test ws) (one wire refl) (rest ws refl))

wired_good :
    (test : Wire → Bool) (f : ℕ → ℕ → Option Wire) → ((line pin : ℕ) (wire : Wire) → f line pin ≡ Some wire →
    test wire ≡ true) →
    (lines pins : List ℕ) (wires : List Wire) → wired f lines pins ≡ Some wires → list_all test wires ≡ true
wired_good test f one [] [] wires is = rw (← same_Some _ _ is) refl
wired_good test f one [] (pin ∷ pins) wires is = absurd (cc)
wired_good test f one (line ∷ lines) [] wires is = absurd (cc)
wired_good test f one (line ∷ lines) (pin ∷ pins) wires is =
    put_wire test (f line pin) (wired f lines pins) wires (one line pin)
    (λ ws same. wired_good test f one lines pins ws same) is

ends_good :
    (test : Wire → Bool) (f : ℕ → ℕ → Option Wire) → ((line pin : ℕ) (wire : Wire) → f line pin ≡ Some wire →
    test wire ≡ true) →
    (lines pins : Option (List ℕ)) (wires : List Wire) → wired_ends f lines pins ≡ Some wires →
    list_all test wires ≡ true
ends_good test f one None pins wires is = absurd (cc)
ends_good test f one (Some lines) None wires is = absurd (cc)
ends_good test f one (Some lines) (Some pins) wires is = wired_good test f one lines pins wires is

item_good :
    (kinds : List Kind) (regions : List Region) (plic : Option PlicSize) (all : List Peripheral)
    (t : Option PeripheralType)
    (dev : ℕ) (what : ItemWhat) (wires : List Wire) → LinesAre kinds regions plic t dev →
    item_wires plic all t dev what ≡ Some wires → list_all (good kinds regions plic (count_of all Cpu)) wires ≡ true
item_good kinds regions plic all t dev (item.Attribute key value) wires lines is = rw (← same_Some _ _ is) refl
item_good kinds regions plic all t dev (item.Wire from to pins) wires lines is =
    let n = count_of all Cpu in
    let hart = hart_of all to in
    let f = wire_at plic n t dev hart in
    elim (has_ends t from) as (λ b. cond {A = Option (List Wire)} b (wired_ends f (ends_of from)
    (ends_of pins)) None ≡ Some wires →
    list_all (good kinds regions plic n) wires ≡ true) [
      | true ↦ λ is.
          ends_good (good kinds regions plic n) f
          (λ line pin wire same. wire_good kinds regions plic n (line_of plic t dev line) (pin_by hart pin) wire
          (λ from there. lines line from there) same)
          (ends_of from) (ends_of pins) wires is
      | false ↦ λ is. absurd (cc)
    ] is

pub given : (fault : PlatFault) (o : Option (List Wire)) (wires : List Wire) → wires_or fault o ≡ Ok wires →
    o ≡ Some wires
given fault None wires is = absurd (cc)
given fault (Some ws) wires is = ap (λ ws. Some ws) (same_ok _ _ is)

items_good :
    (test : Wire → Bool) (f : PlacedItem → Result (List Wire) PlatFault) →
    ((i : PlacedItem) (wires : List Wire) → f i ≡ Ok wires → list_all test wires ≡ true) →
    (items : List PlacedItem) (wires : List Wire) → items_wires f items ≡ Ok wires → list_all test wires ≡ true
items_good test f one [] wires is = rw (← same_ok _ _ is) refl
items_good test f one (i ∷ items) wires is =
    let first = ok_then (f i) _ wires is in
    let rest = ok_then (items_wires f items) _ wires first.1.1 in
    rw (← same_ok _ _ rest.1.1)
    (all_append test first.0 rest.0 (one i first.0 first.1.0) (items_good test f one items rest.0 rest.1.0))

there : (k : PeripheralType) (before : List Peripheral) (p : Peripheral) (ps : List Peripheral) →
    is_type k p.kind ≡ true →
    has_type k (before ++ p ∷ ps) ≡ true
there k [] p ps is = rw is refl
there k (q ∷ qs) p ps is =
    let rest = there k qs p ps is in
    elim (is_type k q.kind) as (λ b. (b || has_type k (qs ++ p ∷ ps)) ≡ true) [ true ↦ refl | false ↦ rest ]

lines_by :
    (t : Option PeripheralType) (kinds : List Kind) (regions : List Region) (plic : Option PlicSize) (dev : ℕ) →
    (is_type Clint t ≡ true → has_region regions part.Clint ≡ true) →
    (is_device t ≡ true → slice_get kinds dev ≡ kind_by t) → LinesAre kinds regions plic t dev
lines_by (Some Clint) kinds regions plic dev clint device line from is =
    elim (line == 0) as (λ a. cond {A = Option WireFrom} a (Some Soft)
    (cond {A = Option WireFrom} (line == 1) (Some Timer) None) ≡ Some from → is_from kinds regions plic from ≡ true) [
      | true ↦ λ is. rw (← same_Some _ _ is) (clint refl)
      | false ↦ λ is.
          elim (line == 1) as (λ b. cond {A = Option WireFrom} b (Some Timer) None ≡ Some from →
          is_from kinds regions plic from ≡ true) [
            | true ↦ λ is. rw (← same_Some _ _ is) (clint refl)
            | false ↦ λ is. absurd (cc)
          ] is
    ] is
lines_by (Some Plic) kinds regions plic dev clint device line from is =
    elim (is_context plic line) as (λ b. is_context plic line ≡ b →
    cond {A = Option WireFrom} b (Some (Context line)) None ≡ Some from →
    is_from kinds regions plic from ≡ true) [
      | true ↦ λ there is. rw (← same_Some _ _ is) there
      | false ↦ λ there is. absurd (cc)
    ] refl is
lines_by (Some (Device own)) kinds regions plic dev clint device line from is =
    by_line (row_of own).has_line (line == 0) (ap kind_has_line (device refl)) is
  where
    by_line : (has first : Bool) → has_line kinds dev ≡ has →
        cond {A = Option WireFrom} (has && first) (Some (Dev dev)) None ≡ Some from →
        is_from kinds regions plic from ≡ true
    by_line true true here is = rw (← same_Some _ _ is) here
    by_line true false here is = absurd (cc)
    by_line false first here is = absurd (cc)
lines_by _ kinds regions plic dev clint device line from is = absurd (cc)

from_good :
    (plic : Option PlicSize) (all before xs : List Peripheral) (wires : List Wire) → all ≡ before ++ xs →
    wires_from plic all before xs ≡ Ok wires →
    list_all (good (kinds_of all) (each region_of [] all) plic (count_of all Cpu)) wires ≡ true
from_good plic all before [] wires whole is = rw (← same_ok _ _ is) refl
from_good plic all before (p ∷ ps) wires whole is =
    let kinds = kinds_of all in
    let regions = each region_of [] all in
    let f = placed_wires plic all p.kind (devices_of before) in
    let first = ok_then (items_wires f p.items) _ wires is in
    let rest = ok_then (wires_from plic all (before ++ p ∷ []) ps) _ wires first.1.1 in
    let clint : is_type Clint p.kind ≡ true → has_region regions part.Clint ≡ true =
    λ is. clint_there [] all ∙ (ap (has_type Clint) whole ∙ there Clint before p ps is) in
    let device : is_device p.kind ≡ true → slice_get kinds (devices_of before) ≡ kind_by p.kind =
    λ is. ap (λ ps. slice_get (kinds_of ps) (devices_of before)) whole ∙ kind_at before p ps is in
    let lines = lines_by p.kind kinds regions plic (devices_of before) clint device in
    let n = count_of all Cpu in
    let mine = items_good (good kinds regions plic n) f
    (λ i ws same. item_good kinds regions plic all p.kind (devices_of before) i.what ws lines (given _ _ ws same))
    p.items first.0 first.1.0 in
    let later = from_good plic all (before ++ p ∷ []) ps rest.0 (whole
    ∙ sym (append_assoc before (p ∷ []) ps)) rest.1.0 in
    rw (← same_ok _ _ rest.1.1) (all_append (good kinds regions plic n) first.0 rest.0 mine later)

-- each wire is one that a board may have
pub wires_good :
    (all : List Peripheral) (wires : List Wire) → wires_of all ≡ Ok wires →
    are_wires (kinds_of all) (each region_of [] all) (plic_of all) (length (cpus_of all)) wires ≡ true
wires_good all wires is = rw (cpus_count all) (from_good (plic_of all) all [] all wires refl is)
