-- The wires of a plan are those that the text tells.
use Rattle.std.proofs.Common.{◌≡◌, ◌∙◌, ℕ, ◌<◌, suc, zero, Bool, true, false, not, ◌&&◌, ◌||◌, refl, sym, ap, List, []}
use Rattle.std.proofs.Common.{◌∷◌, ◌++◌, map, append_assoc, cond, subst, arith}
use Rattle.std.proofs.Common.{Option, None, Some, Ok, is_none, slice_get, slice_set, get_or, length}
use Rattle.std.proofs.Common.{◌==◌, position}
use Rattle.std.proofs.lemmas.Grind.{flat_map-append}
use Rattle.std.proofs.lemmas.List.{append-nil}
use Rattle.std.proofs.lemmas.List.Quantifiers.{position-Some}
use Rattle.std.proofs.lemmas.Slice.Eq.{bytes_eq-Decides}
use Rattle.std.specs.List.{flat_map, fold, list_all}
use Rattle.std.specs.Str.{bytes_eq}
use Rattle.std.proofs.lemmas.Bool.{and_parts}
use Rattle.std.proofs.lemmas.Option.{same_Some}
use Rattle.repl_read.specs.declared.entry.Ends.{Ends}
use Rattle.repl_read.specs.declared.entry.Ends.TheVariants.{Absent, Irq, Spans}
use Rattle.repl_read.specs.declared.entry.Entry.{Entry}
use Rattle.repl_read.specs.declared.entry.Head.{Head}
use Rattle.repl_read.specs.declared.entry.Head.TheVariants.{Using, Typed, Update}
use Rattle.repl_read.specs.declared.entry.Item.{Item}
use Rattle.repl_read.specs.declared.entry.ItemWhat.{ItemWhat}
use Rattle.repl_read.specs.declared.entry.ItemWhat.TheVariants as item
use Rattle.sys_bus.specs.declared.plan.BoardPlan.{BoardPlan}
use Rattle.sys_bus.specs.declared.plan.Named.{Named}
use Rattle.sys_bus.specs.declared.plan.NamedWhat.{NamedWhat}
use Rattle.sys_bus.specs.declared.plan.NamedWhat.TheVariants as what
use Rattle.sys_bus.specs.declared.plan.PlicSize.{PlicSize}
use Rattle.sys_bus.specs.declared.region.RegionKind.TheVariants as part
use Rattle.sys_bus.specs.declared.wire.Wire.{Wire}
use Rattle.sys_bus.specs.declared.wire.WireFrom.{WireFrom}
use Rattle.sys_bus.specs.declared.wire.WireFrom.TheVariants.{Context, Dev}
use Rattle.sys_bus.specs.declared.wire.WirePin.{WirePin}
use Rattle.sys_bus.specs.Wire.{is_context, may_end}
use Rattle.dev_core.specs.Kind.{row_of}
use Rattle.repl_build.specs.declared.merge.Peripheral.{Peripheral}
use Rattle.repl_build.specs.declared.merge.PlacedItem.{PlacedItem}
use Rattle.repl_build.specs.declared.rules.Rule.TheVariants.{References}
use Rattle.repl_build.specs.declared.types.PeripheralType.{PeripheralType}
use Rattle.repl_build.specs.declared.types.PeripheralType.TheVariants.{Cpu, Memory, Clint, Plic, Device}
use Rattle.repl_build.specs.Connections.{Connection, numbers, connection, connections_in, further_connections}
use Rattle.repl_build.specs.Connections.{connections_by, connections, line_from, IsPin, StandsFor, Leads, AreLed}
use Rattle.repl_build.specs.Connections.{AreConnected}
use Rattle.repl_build.specs.Counts.{count_of}
use Rattle.repl_build.specs.First.{first_fault}
use Rattle.repl_build.specs.Merge.{placed, own_items, has_same_key, put_at, with_item, updates, further_of}
use Rattle.repl_build.specs.Merge.{further_items, merged_items, peripheral_by, merged}
use Rattle.repl_build.specs.Names.{has_key}
use Rattle.repl_build.specs.Numbers.{devices_of, what_of}
use Rattle.repl_build.specs.Plan.{each, name_of, plic_of, wires_from, built}
use Rattle.repl_build.specs.Processors.{cpus_of, hart_of}
use Rattle.repl_build.specs.References.{names_a, refers_to_none}
use Rattle.repl_build.specs.Rules.{item_fault, peripheral_fault}
use Rattle.repl_build.specs.Types.{is_type}
use Rattle.repl_build.specs.Wires.{is_low, numbers_of, ends_of, line_of, pin_by, wire_by, wire_at, in_front, wired}
use Rattle.repl_build.specs.Wires.{wired_ends, has_ends, item_wires, placed_wires, items_wires}
use Rattle.repl_build.proofs.EntryLemmas.{entries_tell}
use Rattle.repl_build.proofs.NoneLemmas.{no_fault, first_none, unbroken}
use Rattle.repl_build.proofs.ProcessorLemmas.{cpu_at, hart_absent, hart_found}
use Rattle.repl_build.proofs.RegionLemmas.{each_append}
use Rattle.repl_build.proofs.SoundLemmas.{Sound, sound}
use Rattle.repl_build.proofs.TypeLemmas.{is_type_same}
use Rattle.repl_build.proofs.ValidLemmas.{made}
use Rattle.repl_build.proofs.WireValid.{ok_then, same_ok, given}
use Rattle.lab_num.proofs.ListLemmas.{get_middle}

-- ---- lists of connections

connected-append :
    (names : List Named) (cpus : List (List ℕ)) (cs ds : List Connection) (ws vs : List Wire) →
    AreConnected names cpus cs ws → AreConnected names cpus ds vs → AreConnected names cpus (cs ++ ds) (ws ++ vs)
connected-append names cpus [] ds ws vs one two = rw one two
connected-append names cpus (c ∷ cs) ds ws vs one two =
    let mine = one.0 in
    let others = one.1.0 in
    let parts = one.1.1 in (
      mine,
      (
        others ++ vs,
        (
          ap (λ wires. wires ++ vs) parts.0 ∙ append_assoc mine others vs,
          (parts.1.0, connected-append names cpus cs ds others vs parts.1.1 two),
        ),
      ),
    )

one_connected :
    (names : List Named) (cpus : List (List ℕ)) (c : Connection) (ws : List Wire) →
    AreLed names cpus c.source c.target c.lines c.pins ws →
    AreConnected names cpus (c ∷ []) ws
one_connected names cpus c ws led = (ws, ([], (sym (append-nil ws), (led, refl))))

-- ---- what names stand for

named_at :
    (all before : List Peripheral) (p : Peripheral) (ps : List Peripheral) (w : NamedWhat) → all ≡ before ++ p ∷ ps →
    what_of before p.kind ≡ Some w → StandsFor (each name_of [] all) p.name w
named_at all before p ps w whole is =
    let n : Named = record { name = p.name; what = w } in
    let front = each name_of [] before in
    let rest = each name_of (before ++ p ∷ []) ps in
    let here : name_of before p ≡ n ∷ [] = rw is refl in
    let split : each name_of [] all ≡ front ++ n ∷ rest =
    ap (each name_of []) whole ∙ each_append name_of [] before (p ∷ ps) ∙ ap (λ mine. front ++ (mine ++ rest)) here in
    (length front, rw split (get_middle front n rest))

stands_of :
    (all before xs : List Peripheral) (k : PeripheralType) (w : NamedWhat) (name : List ℕ) →
    ((others : List Peripheral) → what_of others (Some k) ≡ Some w) → all ≡ before ++ xs →
    names_a k xs name ≡ true → StandsFor (each name_of [] all) name w
stands_of all before [] k w name stands whole there = absurd (cc)
stands_of all before (p ∷ ps) k w name stands whole there =
    elim (is_type k p.kind && bytes_eq p.name name) as (λ b. (is_type k p.kind && bytes_eq p.name name) ≡ b →
    (b || names_a k ps name) ≡ true → StandsFor (each name_of [] all) name w) [
      | true ↦ λ hit there.
          let parts = and_parts (is_type k p.kind) (bytes_eq p.name name) hit in
          let same : p.name ≡ name = (bytes_eq-Decides p.name name).0 parts.1 in
          rw (← same) (named_at all before p ps w whole (ap (what_of before) (is_type_same k p.kind parts.0)
          ∙ stands before))
      | false ↦ λ miss there.
          stands_of all (before ++ p ∷ []) ps k w name stands (whole ∙ sym (append_assoc before (p ∷ []) ps)) there
    ] refl there

-- what a wire begins at
abbrev Begins : List Named → Option PlicSize → Option PeripheralType → ℕ → List ℕ → Type 0
Begins names plic t dev name =
    (w : NamedWhat) × (StandsFor names name w
    × ((line : ℕ) (from : WireFrom) → line_of plic t dev line ≡ Some from → line_from w line ≡ Some from))

begins :
    (names : List Named) (plic : Option PlicSize) (t : Option PeripheralType) (before : List Peripheral)
    (name : List ℕ) → is_none t ≡ false →
    ((w : NamedWhat) → what_of before t ≡ Some w → StandsFor names name w) →
    Begins names plic t (devices_of before) name
begins names plic None before name known stands = absurd (cc)
begins names plic (Some Cpu) before name known stands =
    (what.Cpu, (stands what.Cpu refl, λ line from is. absurd (cc)))
begins names plic (Some Plic) before name known stands =
    (what.Part part.Plic, (stands _ refl, λ line from is. in_context line from is))
  where
    in_context : (line : ℕ) (from : WireFrom) → line_of plic (Some Plic) (devices_of before) line ≡ Some from →
        line_from (what.Part part.Plic) line ≡ Some from
    in_context line from is =
        elim (is_context plic line) as (λ b. cond {A = Option WireFrom} b (Some (Context line)) None ≡ Some from →
        line_from (what.Part part.Plic) line ≡ Some from) [ true ↦ λ is. is | false ↦ λ is. absurd (cc) ] is
begins names plic (Some Memory) before name known stands =
    (_, (stands _ refl, λ line from is. absurd (cc)))
begins names plic (Some Clint) before name known stands = (what.Part part.Clint, (stands _ refl, λ line from is. is))
begins names plic (Some (Device device)) before name known stands = (
  what.Part (part.Dev (devices_of before)),
  (stands _ refl, λ line from is. on_line (row_of device).has_line line from is),
)
  where
    on_line : (has : Bool) (line : ℕ) (from : WireFrom) →
        cond {A = Option WireFrom} (has && (line == 0)) (Some (Dev (devices_of before))) None ≡ Some from →
        line_from (what.Part (part.Dev (devices_of before))) line ≡ Some from
    on_line true line from is = is
    on_line false line from is = absurd (cc)

-- what a wire ends at
abbrev Ending : List Named → List (List ℕ) → List ℕ → Option ℕ → Type 0
Ending names cpus to hart =
    (w : NamedWhat) × (StandsFor names to w × ((pin : ℕ) → IsPin cpus to w pin (pin_by hart pin)))

ending :
    (all : List Peripheral) (to : List ℕ) (hart : Option ℕ) (b c : Bool) → hart_of all to ≡ hart →
    names_a Cpu all to ≡ b → names_a Plic all to ≡ c → not (b || c) ≡ false →
    Ending (each name_of [] all) (cpus_of all) to hart
ending all to (Some h) b c hart cpu plic refers =
    let found = hart_found all to h hart in
    let stands = named_at all found.before found.p found.ps what.Cpu found.whole
    (ap (what_of found.before) found.kind) in
    let at : slice_get (cpus_of all) h ≡ Some to =
    ap (λ ps. slice_get (cpus_of ps) h) found.whole
    ∙ ap (λ n. slice_get (cpus_of (found.before ++ found.p ∷ found.ps)) n) found.number
    ∙ cpu_at found.before found.p found.ps (ap (is_type Cpu) found.kind)
    ∙ ap (λ name. Some name) found.called in (
      what.Cpu,
      (
        subst (λ name. StandsFor (each name_of [] all) name what.Cpu) found.called stands,
        λ pin. (at, refl),
      ),
    )
ending all to None b true hart cpu plic refers =
    (what.Part part.Plic, (stands_of all [] all Plic (what.Part part.Plic) to (λ others. refl) refl plic, λ pin. refl))
ending all to None true false hart cpu plic refers =
    let none = hart_absent all to hart in
    absurd (cc)
ending all to None false false hart cpu plic refers = absurd (cc)

-- ---- the wires of an item

wire_is : (plic : Option PlicSize) (n : ℕ) (o : Option WireFrom) (pin : WirePin) (wire : Wire) →
    wire_by plic n o pin ≡ Some wire → (o ≡ Some wire.from) × (pin ≡ wire.pin)
wire_is plic n None pin wire is = absurd (cc)
wire_is plic n (Some from) pin wire is =
    elim (may_end plic n from pin) as (λ b.
    cond {A = Option Wire} b (Some (record { from = from; pin = pin })) None ≡ Some wire →
    (let o : Option WireFrom = Some from in o ≡ Some wire.from) × (pin ≡ wire.pin)) [
      | true ↦ λ is. rw (← same_Some _ _ is) (refl, refl)
      | false ↦ λ is. absurd (cc)
    ] is

leads :
    (names : List Named) (cpus : List (List ℕ)) (plic : Option PlicSize) (n : ℕ) (t : Option PeripheralType) (dev : ℕ)
    (source target : List ℕ) (hart : Option ℕ) (line pin : ℕ) (wire : Wire) → Begins names plic t dev source →
    Ending names cpus target hart →
    wire_at plic n t dev hart line pin ≡ Some wire → Leads names cpus source line target pin wire
leads names cpus plic n t dev source target hart line pin wire begin end is =
    let ends = wire_is plic n (line_of plic t dev line) (pin_by hart pin) wire is in
    record {
      first = begin.0;
      is_source = begin.1.0;
      begins = begin.1.1 line wire.from ends.0;
      last = end.0;
      is_target = end.1.0;
      ends = subst (λ p. IsPin cpus target end.0 pin p) ends.1 (end.1.1 pin);
    }

abbrev Leading : List Named → List (List ℕ) → List ℕ → List ℕ → (ℕ → ℕ → Option Wire) → Type 0
Leading names cpus source target f =
    (line pin : ℕ) (wire : Wire) → f line pin ≡ Some wire → Leads names cpus source line target pin wire

put_led :
    (names : List Named) (cpus : List (List ℕ)) (source target : List ℕ) (line pin : ℕ) (lines pins : List ℕ)
    (o : Option Wire)
    (more : Option (List Wire)) (wires : List Wire) →
    ((wire : Wire) → o ≡ Some wire → Leads names cpus source line target pin wire) →
    ((ws : List Wire) → more ≡ Some ws → AreLed names cpus source target lines pins ws) →
    in_front o more ≡ Some wires → AreLed names cpus source target (line ∷ lines) (pin ∷ pins) wires
put_led names cpus source target line pin lines pins None more wires one rest is = absurd (cc)
put_led names cpus source target line pin lines pins (Some wire) None wires one rest is = absurd (cc)
put_led names cpus source target line pin lines pins (Some wire) (Some ws) wires one rest is =
    rw (← same_Some _ _ is) (one wire refl, rest ws refl)

wired_led :
    (names : List Named) (cpus : List (List ℕ)) (source target : List ℕ) (f : ℕ → ℕ → Option Wire) →
    Leading names cpus source target f →
    (lines pins : List ℕ) (wires : List Wire) → wired f lines pins ≡ Some wires →
    AreLed names cpus source target lines pins wires
wired_led names cpus source target f one [] [] wires is = rw (← same_Some _ _ is) tt
wired_led names cpus source target f one [] (pin ∷ pins) wires is = absurd (cc)
wired_led names cpus source target f one (line ∷ lines) [] wires is = absurd (cc)
wired_led names cpus source target f one (line ∷ lines) (pin ∷ pins) wires is =
    put_led names cpus source target line pin lines pins (f line pin) (wired f lines pins) wires (one line pin)
    (λ ws same. wired_led names cpus source target f one lines pins ws same) is

ends_numbers : (e : Ends) (ns : List ℕ) → ends_of e ≡ Some ns → ns ≡ numbers e
ends_numbers Absent ns is = sym (same_Some _ _ is)
ends_numbers Irq ns is = sym (same_Some _ _ is)
ends_numbers (Spans spans) ns is =
    elim (list_all is_low spans) as (λ b.
    cond {A = Option (List ℕ)} b (Some (flat_map numbers_of spans)) None ≡ Some ns →
    ns ≡ flat_map numbers_of spans) [ true ↦ λ is. sym (same_Some _ _ is) | false ↦ λ is. absurd (cc) ] is

ends_led :
    (names : List Named) (cpus : List (List ℕ)) (source target : List ℕ) (f : ℕ → ℕ → Option Wire) →
    Leading names cpus source target f →
    (a b : Option (List ℕ)) (lines pins : List ℕ) (wires : List Wire) →
    ((ns : List ℕ) → a ≡ Some ns → ns ≡ lines) → ((ns : List ℕ) → b ≡ Some ns → ns ≡ pins) →
    wired_ends f a b ≡ Some wires → AreLed names cpus source target lines pins wires
ends_led names cpus source target f one None b lines pins wires la pb is = absurd (cc)
ends_led names cpus source target f one (Some ls) None lines pins wires la pb is = absurd (cc)
ends_led names cpus source target f one (Some ls) (Some ps) lines pins wires la pb is =
    rw (← la ls refl, ← pb ps refl) (wired_led names cpus source target f one ls ps wires is)

item_connected :
    (all : List Peripheral) (plic : Option PlicSize) (t : Option PeripheralType) (dev : ℕ) (name : List ℕ)
    (what : ItemWhat) (wires : List Wire) → Begins (each name_of [] all) plic t dev name →
    refers_to_none all what ≡ false → item_wires plic all t dev what ≡ Some wires →
    AreConnected (each name_of [] all) (cpus_of all) (connection name what) wires
item_connected all plic t dev name (item.Attribute key value) wires begin refers is = sym (same_Some _ _ is)
item_connected all plic t dev name (item.Wire from to pins) wires begin refers is =
    let names = each name_of [] all in
    let cpus = cpus_of all in
    let n = count_of all Cpu in
    let hart = hart_of all to in
    let f = wire_at plic n t dev hart in
    let end = ending all to hart (names_a Cpu all to) (names_a Plic all to) refl refl refl refers in
    elim (has_ends t from) as (λ b. cond {A = Option (List Wire)} b (wired_ends f (ends_of from) (ends_of pins)) None
    ≡ Some wires → AreConnected names cpus (connection name (item.Wire from to pins)) wires) [
      | true ↦ λ is.
          one_connected names cpus
          (record { source = name; lines = numbers from; target = to; pins = numbers pins }) wires
          (ends_led names cpus name to f
          (λ line pin wire same. leads names cpus plic n t dev name to hart line pin wire begin end same)
          (ends_of from) (ends_of pins) (numbers from) (numbers pins) wires (ends_numbers from) (ends_numbers pins) is)
      | false ↦ λ is. absurd (cc)
    ] is

-- ---- the wires of all items

abbrev told : Peripheral → List Connection
told p = flat_map (λ i. connection p.name i.what) p.items

items_connected :
    (all others : List Peripheral) (plic : Option PlicSize) (dev : ℕ) (p : Peripheral)
    (before items : List PlacedItem) (wires : List Wire) → Begins (each name_of [] all) plic p.kind dev p.name →
    first_fault (item_fault References all others p) before items ≡ None →
    items_wires (placed_wires plic all p.kind dev) items ≡ Ok wires →
    AreConnected (each name_of [] all) (cpus_of all) (flat_map (λ i. connection p.name i.what) items) wires
items_connected all others plic dev p before [] wires begin none is = sym (same_ok _ _ is)
items_connected all others plic dev p before (i ∷ items) wires begin none is =
    let f = placed_wires plic all p.kind dev in
    let parts = first_none _ _ none in
    let first = ok_then (f i) _ wires is in
    let rest = ok_then (items_wires f items) _ wires first.1.1 in
    let here = item_connected all plic p.kind dev p.name i.what first.0 begin (no_fault _ _ parts.0)
    (given _ _ first.0 first.1.0) in
    let later = items_connected all others plic dev p (before ++ i ∷ []) items rest.0 begin parts.1 rest.1.0 in
    rw (← same_ok _ _ rest.1.1)
    (connected-append (each name_of [] all) (cpus_of all) (connection p.name i.what)
    (flat_map (λ i. connection p.name i.what) items) first.0 rest.0 here later)

from_connected :
    (plic : Option PlicSize) (all before xs : List Peripheral) (wires : List Wire) → all ≡ before ++ xs →
    Sound all before xs → first_fault (peripheral_fault References all) before xs ≡ None →
    wires_from plic all before xs ≡ Ok wires → AreConnected (each name_of [] all) (cpus_of all) (flat_map told xs) wires
from_connected plic all before [] wires whole sound none is = sym (same_ok _ _ is)
from_connected plic all before (p ∷ ps) wires whole sound none is =
    let names = each name_of [] all in
    let cpus = cpus_of all in
    let f = placed_wires plic all p.kind (devices_of before) in
    let parts = first_none _ _ none in
    let first = ok_then (items_wires f p.items) _ wires is in
    let rest = ok_then (wires_from plic all (before ++ p ∷ []) ps) _ wires first.1.1 in
    let begin = begins names plic p.kind before p.name sound.0.known
    (λ w stands. named_at all before p ps w whole stands) in
    let here = items_connected all before plic (devices_of before) p [] p.items first.0 begin
    (unbroken References all before p parts.0).1 first.1.0 in
    let later = from_connected plic all (before ++ p ∷ []) ps rest.0 (whole ∙ sym (append_assoc before (p ∷ []) ps))
    sound.1 parts.1 rest.1.0 in
    rw (← same_ok _ _ rest.1.1)
    (connected-append names cpus (told p) (flat_map told ps) first.0 rest.0 here later)

-- ---- further items

abbrev to_name : List ℕ → PlacedItem → List Connection
to_name name i = connection name i.what

set_kept :
    (g : PlacedItem → List Connection) (xs : List PlacedItem) (i : ℕ) (x d : PlacedItem) → i < length xs →
    g (get_or xs i d) ≡ [] → g x ≡ [] → flat_map g (slice_set xs i x) ≡ flat_map g xs
set_kept g [] i x d inside old new = refl
set_kept g (y ∷ ys) zero x d inside old new =
    ap (λ mine. mine ++ flat_map g ys) (new ∙ sym old)
set_kept g (y ∷ ys) (suc i) x d inside old new =
    ap (λ rest. g y ++ rest) (set_kept g ys i x d (omega arith) old new)

attribute_none : (name key : List ℕ) (what : ItemWhat) → has_key key what ≡ true → connection name what ≡ []
attribute_none name key (item.Attribute k value) is = refl
attribute_none name key (item.Wire from to pins) is = absurd (cc)

put_told :
    (name : List ℕ) (items : List PlacedItem) (x : PlacedItem) (o : Option ℕ) (what : ItemWhat) → x.what ≡ what →
    position (has_same_key x.what) items ≡ o →
    flat_map (to_name name) (put_at o items x) ≡ flat_map (to_name name) items ++ to_name name x
put_told name items x None what kind is =
    flat_map-append (to_name name) items (x ∷ [])
    ∙ ap (λ mine. flat_map (to_name name) items ++ mine) (append-nil (to_name name x))
put_told name items x (Some i) (item.Attribute key value) kind is =
    let found = position-Some (has_same_key x.what) items i x is in
    let old = get_or items i x in
    let hit : has_key key old.what ≡ true = ap (λ what. has_same_key what old) (sym kind) ∙ found.1 in
    let new : to_name name x ≡ [] = ap (connection name) kind in
    set_kept (to_name name) items i x x found.0 (attribute_none name key old.what hit) new
    ∙ sym (ap (λ mine. flat_map (to_name name) items ++ mine) new ∙ append-nil (flat_map (to_name name) items))
put_told name items x (Some i) (item.Wire from to pins) kind is =
    let found = position-Some (has_same_key x.what) items i x is in
    let never : false ≡ true = ap (λ what. has_same_key what (get_or items i x)) (sym kind) ∙ found.1 in
    absurd (cc)

folded :
    (name : List ℕ) (items xs : List PlacedItem) →
    flat_map (to_name name) (fold with_item items xs)
    ≡ flat_map (to_name name) items ++ flat_map (to_name name) xs
folded name items [] = sym (append-nil (flat_map (to_name name) items))
folded name items (x ∷ xs) =
    let one : flat_map (to_name name) (with_item items x) ≡ flat_map (to_name name) items ++ to_name name x =
    put_told name items x (position (has_same_key x.what) items) x.what refl refl in
    folded name (with_item items x) xs
    ∙ (rw one (append_assoc (flat_map (to_name name) items) (to_name name x) (flat_map (to_name name) xs)))

own_told : (name : List ℕ) (file : ℕ) (items : List Item) →
    flat_map (to_name name) (map (placed file) items) ≡ connections_in name items
own_told name file [] = refl
own_told name file (i ∷ items) = ap (λ rest. connection name i.what ++ rest) (own_told name file items)

further_told : (name : List ℕ) (entries : List Entry) →
    flat_map (to_name name) (flat_map (further_of name) entries) ≡ flat_map (further_connections name) entries
further_told name [] = refl
further_told name (e ∷ es) =
    let one : flat_map (to_name name) (further_of name e) ≡ further_connections name e =
    elim (updates name e.head) as (λ b. flat_map (to_name name) (cond {A = List PlacedItem} b (own_items e) [])
    ≡ cond {A = List Connection} b (connections_in name e.items) []) [
      | true ↦ own_told name e.file e.items
      | false ↦ refl
    ] in
    flat_map-append (to_name name) (further_of name e) (flat_map (further_of name) es)
    ∙ (rw (one, further_told name es) refl)

text_said : (all : List Entry) (e : Entry) (head : Head) →
    flat_map told (peripheral_by all e head) ≡ connections_by all e head
text_said all e (Typed name type_name at) =
    append-nil (flat_map (to_name name) (merged_items all name e))
    ∙ (folded name (own_items e) (further_items all name)
    ∙ (rw (own_told name e.file e.items, further_told name all) refl))
text_said all e (Using file) = refl
text_said all e (Update name) = refl

pub wires_told : (entries : List Entry) (plan : BoardPlan) → built entries ≡ Ok plan →
    AreConnected plan.names plan.cpus (connections entries) plan.wires
wires_told entries plan is =
    let made = made entries plan is in
    let all = merged entries in
    let text : flat_map told all ≡ connections entries =
    entries_tell told (λ e. connections_by entries e e.head) entries entries (λ e. text_said entries e e.head) in
    rw (← made.is)
    (subst (λ cs. AreConnected (each name_of [] all) (cpus_of all) cs made.wires) text
    (from_connected (plic_of all) all [] all made.wires refl (sound all made.keeps) made.keeps.references made.wired))
