-- What is answered to entries is told by the questions of the eleven rules.
use Rattle.std.proofs.Common.{◌≡◌, ◌∙◌, true, false, not, ◌&&◌, refl, sym, ap, List, [], ◌∷◌, ◌++◌, map}
use Rattle.std.proofs.Common.{Option, None, Some, Result, Ok, Err, is_none, append_assoc}
use Rattle.std.proofs.lemmas.Grind.{flat_map-append}
use Rattle.std.proofs.lemmas.List.{append-nil}
use Rattle.std.specs.List.{list_all, flat_map}
use Rattle.repl_read.specs.declared.entry.Entry.{Entry}
use Rattle.repl_read.specs.declared.fault.PlatCause.TheVariants.{Twice, Line, Count}
use Rattle.repl_read.specs.declared.fault.PlatFault.{PlatFault}
use Rattle.repl_read.specs.declared.fault.PlatFault.TheVariants.{At}
use Rattle.sys_bus.specs.declared.plan.BoardPlan.{BoardPlan}
use Rattle.sys_bus.specs.declared.wire.Wire.{Wire}
use Rattle.repl_build.specs.declared.merge.Peripheral.{Peripheral}
use Rattle.repl_build.specs.declared.merge.PlacedItem.{PlacedItem}
use Rattle.repl_build.specs.declared.rules.Rule.{Rule}
use Rattle.repl_build.specs.declared.rules.Rule.TheVariants as rule
use Rattle.repl_build.specs.Counts.{is_bare}
use Rattle.repl_build.specs.First.{◌>>=◌, refuse, fault_if, first_of, first_fault}
use Rattle.repl_build.specs.Merge.{merged}
use Rattle.repl_build.specs.Names.{repeats_name, repeats_key, repeated_item, repeated_in, repeated, untyped_at, untyped}
use Rattle.repl_build.specs.Numbers.{devices_of}
use Rattle.repl_build.specs.Plan.{each, plic_of, wires_from, wires_of, plan_with, tested, plan_of, built}
use Rattle.repl_build.specs.Questions.{Question, ask, once_asked, typed_asked, peripheral_asked, rule_asked}
use Rattle.repl_build.specs.Questions.{wires_asked, questions, is_kept, IsFirstBroken}
use Rattle.repl_build.specs.Rules.{cause_of, breaks, item_breaks, peripheral_fault, broken}
use Rattle.repl_build.specs.Wires.{item_wires, wires_or, placed_wires, items_wires}

-- ---- the first question whose rule is broken

abbrev fault_of : Question → Option PlatFault
fault_of q = fault_if q.is_broken (At q.file q.line q.cause)

abbrev told : List Question → Option PlatFault
told [] = None
told (q ∷ qs) = first_of (fault_of q) (told qs)

joined : (a b c : Option PlatFault) → first_of a (first_of b c) ≡ first_of (first_of a b) c
joined None b c = refl
joined (Some fault) b c = refl

told-append : (xs ys : List Question) → told (xs ++ ys) ≡ first_of (told xs) (told ys)
told-append [] ys = refl
told-append (x ∷ xs) ys =
    ap (first_of (fault_of x)) (told-append xs ys) ∙ joined (fault_of x) (told xs) (told ys)

none_kept : (qs : List Question) → told qs ≡ None → list_all is_kept qs ≡ true
none_kept [] none = refl
none_kept (q ∷ qs) none =
    elim q.is_broken as (λ b. first_of (fault_if b (At q.file q.line q.cause)) (told qs) ≡ None →
    (not b && list_all is_kept qs) ≡ true) [
      | true ↦ λ none. absurd (cc)
      | false ↦ λ none. none_kept qs none
    ] none

same_fault : (x y : PlatFault) → (let o : Option PlatFault = Some x in o) ≡ Some y → x ≡ y
same_fault x y is = cc

first_told : (qs : List Question) (fault : PlatFault) → told qs ≡ Some fault → IsFirstBroken qs fault
first_told [] fault is = absurd (cc)
first_told (q ∷ qs) fault is =
    elim q.is_broken as (λ b. q.is_broken ≡ b →
    first_of (fault_if b (At q.file q.line q.cause)) (told qs) ≡ Some fault → IsFirstBroken (q ∷ qs) fault) [
      | true ↦ λ broken is.
          record {
            before = [];
            first = q;
            after = qs;
            all = refl;
            kept = refl;
            broken = broken;
            told = sym (same_fault _ _ is);
          }
      | false ↦ λ good is.
          let later = first_told qs fault is in
          let here : is_kept q ≡ true = rw good refl in
          record {
            before = q ∷ later.before;
            first = later.first;
            after = later.after;
            all = ap (λ more. q ∷ more) later.all;
            kept = rw (here, later.kept) refl;
            broken = later.broken;
            told = later.told;
          }
    ] refl is

-- ---- a rule that is asked is the rule that is tested

first_asked :
    {X : Type 0} (fault : List X → X → Option PlatFault) (asked : List X → X → List Question) →
    ((before : List X) (x : X) → fault before x ≡ told (asked before x)) → (before xs : List X) →
    first_fault fault before xs ≡ told (each asked before xs)
first_asked fault asked same before [] = refl
first_asked fault asked same before (x ∷ xs) =
    let rest = first_asked fault asked same (before ++ x ∷ []) xs in
    rw (same before x, rest) (sym (told-append (asked before x) (each asked (before ++ x ∷ []) xs)))

alone : (o : Option PlatFault) → first_of o None ≡ o
alone None = refl
alone (Some fault) = refl

each_asked :
    {X : Type 0} (asked : X → Question) (before xs : List X) →
    first_fault (λ others x. fault_of (asked x)) before xs ≡ told (map asked xs)
each_asked asked before [] = refl
each_asked asked before (x ∷ xs) = ap (first_of (fault_of (asked x))) (each_asked asked (before ++ x ∷ []) xs)

once_is : (entries : List Entry) → repeated entries ≡ told (each once_asked [] entries)
once_is entries = first_asked repeated_in once_asked (λ before entry. entry_is before entry) [] entries
  where
    entry_is : (before : List Entry) (entry : Entry) → repeated_in before entry ≡ told (once_asked before entry)
    entry_is before entry =
        ap (λ rest. first_of (fault_if (repeats_name before entry.head) (At entry.file entry.line Twice)) rest)
        (first_asked (repeated_item entry.file)
        (λ items item. ask Twice entry.file item.line (repeats_key items item.what) ∷ [])
        (λ items item. sym (alone (repeated_item entry.file items item))) [] entry.items)

typed_is : (entries : List Entry) → untyped entries ≡ told (each typed_asked [] entries)
typed_is entries =
    first_asked untyped_at typed_asked (λ before entry. sym (alone (untyped_at before entry))) [] entries

rule_is : (r : Rule) (all : List Peripheral) → broken r all ≡ told (rule_asked r all)
rule_is r all =
    first_asked (peripheral_fault r all) (peripheral_asked r all) (λ before p. items_are before p) [] all
  where
    items_are : (before : List Peripheral) (p : Peripheral) →
        peripheral_fault r all before p ≡ told (peripheral_asked r all before p)
    items_are before p =
        ap (λ rest. first_of (fault_if (breaks r before p) (At p.file p.line (cause_of r))) rest)
        (each_asked (λ (item : PlacedItem). ask (cause_of r) item.file item.line (item_breaks r all before p item)) []
        p.items)

-- ---- what is answered, by the questions

abbrev fault_in : {X : Type 0} → Result X PlatFault → Option PlatFault
fault_in (Ok x) = None
fault_in (Err fault) = Some fault

-- a step of a `do` block, whose questions come before those of the next
then_asked :
    {X Y : Type 0} (asked more : List Question) (r : Result X PlatFault) (next : X → Result Y PlatFault) →
    told asked ≡ fault_in r → ((x : X) → told more ≡ fault_in (next x)) →
    told (asked ++ more) ≡ fault_in (r >>= next)
then_asked asked more (Ok x) next here later = told-append asked more ∙ (rw here (later x))
then_asked asked more (Err fault) next here later = told-append asked more ∙ (rw here refl)

refused : (o : Option PlatFault) → o ≡ fault_in (refuse o)
refused None = refl
refused (Some fault) = refl

-- a step by a rule
by_rule :
    {Y : Type 0} (asked more : List Question) (o : Option PlatFault) (next : Unit {0} → Result Y PlatFault) →
    o ≡ told asked → told more ≡ fault_in (next tt) → told (asked ++ more) ≡ fault_in (refuse o >>= next)
by_rule asked more o next is later = then_asked asked more (refuse o) next (sym is ∙ refused o) (λ u. later)

-- a step that asks nothing
given : {X Y : Type 0} (asked : List Question) (r : Result X PlatFault) (f : X → Y) → told asked ≡ fault_in r →
    told asked ≡ fault_in (r >>= λ x. Ok (f x))
given asked (Ok x) f is = is
given asked (Err fault) f is = is

-- ---- rule 11

item_asked : (o : Option (List Wire)) (q : Question) → q.is_broken ≡ is_none o →
    told (q ∷ []) ≡ fault_in (wires_or (At q.file q.line q.cause) o)
item_asked None q broken = rw broken refl
item_asked (Some wires) q broken = rw broken refl

items_asked :
    (f : PlacedItem → Result (List Wire) PlatFault) (asked : PlacedItem → Question) →
    ((item : PlacedItem) → told (asked item ∷ []) ≡ fault_in (f item)) → (items : List PlacedItem) →
    told (map asked items) ≡ fault_in (items_wires f items)
items_asked f asked one [] = refl
items_asked f asked one (i ∷ items) =
    then_asked (asked i ∷ []) (map asked items) (f i) _ (one i)
    (λ first. given (map asked items) (items_wires f items) (λ rest. first ++ rest) (items_asked f asked one items))

wires_are : (all before xs : List Peripheral) →
    told (each (wires_asked all) before xs) ≡ fault_in (wires_from (plic_of all) all before xs)
wires_are all before [] = refl
wires_are all before (p ∷ ps) =
    let wires = λ (item : PlacedItem). item_wires (plic_of all) all p.kind (devices_of before) item.what in
    let asked = λ (item : PlacedItem). ask Line item.file item.line (is_none (wires item)) in
    let mine = placed_wires (plic_of all) all p.kind (devices_of before) in
    then_asked (wires_asked all before p) (each (wires_asked all) (before ++ p ∷ []) ps) (items_wires mine p.items) _
    (items_asked mine asked (λ item. item_asked (wires item) (asked item) refl) p.items)
    (λ first. given (each (wires_asked all) (before ++ p ∷ []) ps)
    (wires_from (plic_of all) all (before ++ p ∷ []) ps) (λ rest. first ++ rest)
    (wires_are all (before ++ p ∷ []) ps))

-- ---- all rules

abbrev all_of : List (List Question) → List Question
all_of asked = flat_map (λ one. one) asked

abbrev bare_asked : List Peripheral → List Question
bare_asked all = ask Count 0 0 (is_bare all) ∷ []

abbrev last_asked : List Peripheral → List (List Question)
last_asked all = rule_asked rule.Apart all ∷ rule_asked rule.References all ∷ []

-- rules 3 to 10
abbrev tests_asked : List Peripheral → List (List Question)
tests_asked all =
    rule_asked rule.Types all
    ∷ rule_asked rule.Attributes all
    ∷ rule_asked rule.Required all
    ∷ rule_asked rule.Values all
    ∷ rule_asked rule.Core all
    ∷ (rule_asked rule.Counts all ++ bare_asked all)
    ∷ last_asked all

last_are : (all : List Peripheral) →
    told (all_of (last_asked all))
    ≡ fault_in (refuse (broken rule.Apart all) >>= λ apart. refuse (broken rule.References all))
last_are all =
    by_rule (rule_asked rule.Apart all) (rule_asked rule.References all ++ []) (broken rule.Apart all)
    (λ apart. refuse (broken rule.References all)) (rule_is rule.Apart all)
    (ap told (append-nil (rule_asked rule.References all)) ∙ sym (rule_is rule.References all)
    ∙ refused (broken rule.References all))

tests_are : (all : List Peripheral) → told (all_of (tests_asked all)) ≡ fault_in (tested all)
tests_are all =
    let counts = rule_asked rule.Counts all in
    let last = all_of (last_asked all) in
    by_rule (rule_asked rule.Types all) _ (broken rule.Types all) _ (rule_is rule.Types all)
    (by_rule (rule_asked rule.Attributes all) _ (broken rule.Attributes all) _ (rule_is rule.Attributes all)
    (by_rule (rule_asked rule.Required all) _ (broken rule.Required all) _ (rule_is rule.Required all)
    (by_rule (rule_asked rule.Values all) _ (broken rule.Values all) _ (rule_is rule.Values all)
    (by_rule (rule_asked rule.Core all) _ (broken rule.Core all) _ (rule_is rule.Core all)
    (ap told (append_assoc counts (bare_asked all) last)
    ∙ by_rule counts (bare_asked all ++ last) (broken rule.Counts all) _ (rule_is rule.Counts all)
    (by_rule (bare_asked all) last (fault_if (is_bare all) (At 0 0 Count)) _
    (sym (alone (fault_if (is_bare all) (At 0 0 Count)))) (last_are all)))))))

plan_is : (all : List Peripheral) →
    told (all_of (tests_asked all ++ each (wires_asked all) [] all ∷ [])) ≡ fault_in (plan_of all)
plan_is all =
    let wires = each (wires_asked all) [] all in
    ap told (flat_map-append (λ one. one) (tests_asked all) (wires ∷ []))
    ∙ then_asked (all_of (tests_asked all)) (wires ++ []) (tested all) _ (tests_are all)
    (λ good. ap told (append-nil wires) ∙ given wires (wires_of all) (plan_with all) (wires_are all [] all))

built_is : (entries : List Entry) → told (questions entries) ≡ fault_in (built entries)
unfolding built
built_is entries =
    by_rule (each once_asked [] entries) _ (repeated entries) _ (once_is entries)
    (by_rule (each typed_asked [] entries) _ (untyped entries) _ (typed_is entries) (plan_is (merged entries)))

pub first_refused : (entries : List Entry) (fault : PlatFault) → built entries ≡ Err fault →
    IsFirstBroken (questions entries) fault
first_refused entries fault is = first_told (questions entries) fault (built_is entries ∙ ap fault_in is)

pub all_kept : (entries : List Entry) (plan : BoardPlan) → built entries ≡ Ok plan →
    list_all is_kept (questions entries) ≡ true
all_kept entries plan is = none_kept (questions entries) (built_is entries ∙ ap fault_in is)
