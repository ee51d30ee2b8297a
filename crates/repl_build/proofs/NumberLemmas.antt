-- Numbers of attributes that keep the rule of values are within their ranges.
use Rattle.std.proofs.Common.{Bool, codes, ◌&&◌, ◌≡◌, ℕ, ◌≤◌, ◌∙◌, true, false, not, refl, sym, ap, List, []}
use Rattle.std.proofs.Common.{Option, None, Some, arith}
use Rattle.std.proofs.lemmas.Bool.Decides.{nat_tests}
use Rattle.std.proofs.lemmas.Slice.Eq.{bytes_eq-Decides}
use Rattle.repl_read.specs.declared.entry.ItemWhat.{ItemWhat}
use Rattle.repl_read.specs.declared.entry.ItemWhat.TheVariants.{Attribute, Wire}
use Rattle.repl_read.specs.declared.entry.Place.{Place}
use Rattle.repl_read.specs.declared.entry.Value.{Value}
use Rattle.repl_read.specs.declared.entry.Value.TheVariants.{Number, Words, Truth, Name}
use Rattle.repl_build.specs.declared.attributes.Sort.TheVariants.{Within, Size}
use Rattle.repl_build.specs.declared.merge.Peripheral.{Peripheral}
use Rattle.repl_build.specs.declared.merge.PlacedItem.{PlacedItem}
use Rattle.repl_build.specs.declared.rules.Rule.TheVariants.{Values}
use Rattle.repl_build.specs.declared.types.PeripheralType.{PeripheralType}
use Rattle.repl_build.specs.declared.types.PeripheralType.TheVariants.{Cpu, Memory}
use Rattle.repl_build.specs.Attributes.{is_memory_size, fits_range}
use Rattle.repl_build.specs.Attributes.{sort_of, takes, takes_by, is_refused, item_of, number_by, number_in}
use Rattle.repl_build.specs.Attributes.{number_of}
use Rattle.repl_build.specs.Counts.{count_of, first_with}
use Rattle.repl_build.specs.Names.{has_key}
use Rattle.repl_build.specs.Rules.{item_fault, items_fault, peripheral_fault, broken}
use Rattle.repl_build.specs.Types.{is_type}
use Rattle.repl_build.proofs.NoneLemmas.{no_fault, unbroken, found_sound}
use Rattle.repl_build.proofs.TypeLemmas.{is_type_same}

abbrev pub IsBetween : ℕ → ℕ → ℕ → Type 0
IsBetween least most n = (least ≤ n) × (n ≤ most)

taken :
    (least most before : ℕ) (at : Place) (value : Value) (key : List ℕ) (default : ℕ) →
    not (takes (Within least most) before at value) ≡ false →
    IsBetween least most (number_by default (Attribute key value))
taken least most before at (Number n) key default is = (grind (arith, nat_tests), grind (arith, nat_tests))
taken least most before at (Words text) key default is = absurd (cc)
taken least most before at (Truth truth) key default is = absurd (cc)
taken least most before at (Name name) key default is = absurd (cc)

-- the value of an attribute
pub value_within :
    (type_ : Option PeripheralType) (before : ℕ) (at : Place) (key : List ℕ) (what : ItemWhat)
    (least most default : ℕ) →
    sort_of type_ key ≡ Some (Within least most) → is_refused type_ before at what ≡ false → has_key key what ≡ true →
    IsBetween least most (number_by default what)
value_within type_ before at key (Wire from to pins) least most default sort fits is = absurd (cc)
value_within type_ before at key (Attribute k value) least most default sort fits is =
    let same : k ≡ key = (bytes_eq-Decides k key).0 is in
    let sorted : sort_of type_ k ≡ Some (Within least most) = ap (sort_of type_) same ∙ sort in
    taken least most before at value k default (ap (λ o. not (takes_by o before at value)) (sym sorted) ∙ fits)

number_found :
    (p : Peripheral) (all before : List Peripheral) (key : List ℕ) (least most default : ℕ)
    (found : Option PlacedItem) →
    item_of key p.items ≡ found → sort_of p.kind key ≡ Some (Within least most) →
    items_fault Values all before p ≡ None →
    (found ≡ None → IsBetween least most default) → IsBetween least most (number_in default found)
number_found p all before key least most default None is sort none absent = absent refl
number_found p all before key least most default (Some item) is sort none absent =
    let sound = found_sound (item_fault Values all before p) (λ i. has_key key i.what) [] p.items item none is in
    value_within p.kind (count_of before Cpu) p.at key item.what least most default sort (no_fault _ _ sound.1.1)
    sound.0

-- the number of an attribute, or its default
pub number_within :
    (p : Peripheral) (all before : List Peripheral) (key : List ℕ) (least most default : ℕ) →
    sort_of p.kind key ≡ Some (Within least most) →
    items_fault Values all before p ≡ None →
    (item_of key p.items ≡ None → IsBetween least most default) → IsBetween least most (number_of key default p.items)
number_within p all before key least most default sort none absent =
    number_found p all before key least most default (item_of key p.items) refl sort none absent

-- a peripheral that is found is of its type and keeps the rule of values
pub found_values :
    (all : List Peripheral) (k : PeripheralType) (p : Peripheral) → broken Values all ≡ None →
    first_with k all ≡ Some p →
    (p.kind ≡ Some k) × ((before : List Peripheral) × (items_fault Values all before p ≡ None))
found_values all k p none found =
    let sound = found_sound (peripheral_fault Values all) (λ p. is_type k p.kind) [] all p none found in
    (is_type_same k p.kind sound.0, (sound.1.0, (unbroken Values all sound.1.0 p sound.1.1).1))

sized : (before : ℕ) (at : Place) (value : Value) (key : List ℕ) → not (takes Size before at value) ≡ false →
    is_memory_size (number_by 0 (Attribute key value)) ≡ true
sized before at (Number n) key is = first_true (is_memory_size n) (fits_range at n) is
  where
    first_true : (a b : Bool) → not (a && b) ≡ false → a ≡ true
    first_true true b is = refl
    first_true false b is = absurd (cc)
sized before at (Words text) key is = absurd (cc)
sized before at (Truth truth) key is = absurd (cc)
sized before at (Name name) key is = absurd (cc)

value_sized :
    (before : ℕ) (at : Place) (what : ItemWhat) → is_refused (Some Memory) before at what ≡ false →
    has_key (codes "size") what ≡ true →
    is_memory_size (number_by 0 what) ≡ true
value_sized before at (Wire from to pins) fits is = absurd (cc)
value_sized before at (Attribute k value) fits is =
    let same : k ≡ codes "size" = (bytes_eq-Decides k (codes "size")).0 is in
    let sorted : sort_of (Some Memory) k ≡ Some Size = ap (sort_of (Some Memory)) same in
    sized before at value k (ap (λ o. not (takes_by o before at value)) (sym sorted) ∙ fits)

memory_found :
    (p : Peripheral) (all before : List Peripheral) (found : Option PlacedItem) →
    item_of (codes "size") p.items ≡ found →
    p.kind ≡ Some Memory → items_fault Values all before p ≡ None → (found ≡ None → ⊥) →
    is_memory_size (number_in 0 found) ≡ true
memory_found p all before None is kind none there = absurd (there refl)
memory_found p all before (Some item) is kind none there =
    let n = count_of before Cpu in
    let sound = found_sound (item_fault Values all before p) (λ i. has_key (codes "size") i.what) [] p.items item none
    is in
    value_sized n p.at item.what (sym (ap (λ t. is_refused t n p.at item.what) kind) ∙ no_fault _ _ sound.1.1) sound.0

-- the size of a memory that has no range
pub memory_sized :
    (p : Peripheral) (all before : List Peripheral) → p.kind ≡ Some Memory → items_fault Values all before p ≡ None →
    (item_of (codes "size") p.items ≡ None → ⊥) → is_memory_size (number_of (codes "size") 0 p.items) ≡ true
memory_sized p all before kind none there =
    memory_found p all before (item_of (codes "size") p.items) refl kind none there
