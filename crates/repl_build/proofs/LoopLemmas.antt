-- Loops over lists, an element at a time.
use Rattle.std.proofs.Common.{◌≡◌, ℕ, ◌+◌, ◌<◌, ◌∙◌, Bool, true, false, refl, sym, ap, List, [], ◌∷◌, ◌++◌, length}
use Rattle.std.proofs.Common.{get_or, take, drop, map, filter, append_assoc, Option, None, Some, Result, Ok, Err}
use Rattle.std.specs.List.{flat_map, filter_map, fold}
use Rattle.std.proofs.lemmas.List.{drop_more, take_more, map-append}
use Rattle.std.proofs.lemmas.List.Sums.{fold-append}
use Rattle.repl_read.specs.declared.fault.PlatFault.{PlatFault}
use Rattle.sys_bus.specs.declared.plan.PlicSize.{PlicSize}
use Rattle.sys_bus.specs.declared.wire.Wire.{Wire}
use Rattle.repl_build.specs.declared.merge.Peripheral.{Peripheral}
use Rattle.repl_build.specs.declared.merge.PlacedItem.{PlacedItem}
use Rattle.repl_build.specs.First.{◌>>=◌}
use Rattle.repl_build.specs.Numbers.{devices_of}
use Rattle.repl_build.specs.Plan.{each, wires_from}
use Rattle.repl_build.specs.Wires.{placed_wires, items_wires, in_front, wired}
use Rattle.repl_build.proofs.WireLemmas.{onto, onto_some}

-- the elements from one on
from_here :
    {X : Type 0} (xs : List X) (i : ℕ) (x : X) → i < length xs → x ≡ get_or xs i x → drop i xs ≡ x ∷ drop (i + 1) xs
from_here xs i x inside is = drop_more xs i x inside ∙ ap (λ y. y ∷ drop (i + 1) xs) (sym is)

-- the elements up to one
to_here :
    {X : Type 0} (xs : List X) (i : ℕ) (x : X) → i < length xs → x ≡ get_or xs i x →
    take (i + 1) xs ≡ take i xs ++ x ∷ []
to_here xs i x inside is = take_more xs i x inside ∙ ap (λ y. take i xs ++ y ∷ []) (sym is)

-- an element more, in front of the others
pub push_more :
    {X : Type 0} (made xs whole : List X) (i : ℕ) (d : X) → i < length xs → made ++ drop i xs ≡ whole →
    (made ++ get_or xs i d ∷ []) ++ drop (i + 1) xs ≡ whole
push_more made xs whole i d inside all =
    append_assoc made (get_or xs i d ∷ []) (drop (i + 1) xs) ∙ (rw (drop_more xs i d inside) at all)

-- what an element more makes, in front of what the others make
pub flat_more :
    {X Y : Type 0} (f : X → List Y) (xs : List X) (i : ℕ) (d : X) (made whole : List Y) → i < length xs →
    made ++ flat_map f (drop i xs) ≡ whole →
    (made ++ f (get_or xs i d)) ++ flat_map f (drop (i + 1) xs) ≡ whole
flat_more f xs i d made whole inside all =
    append_assoc made (f (get_or xs i d)) (flat_map f (drop (i + 1) xs)) ∙ (rw (drop_more xs i d inside) at all)

pub map_more :
    {X Y : Type 0} (f : X → Y) (xs : List X) (i : ℕ) (x : X) (made : List Y) → i < length xs → x ≡ get_or xs i x →
    made ≡ map f (take i xs) → made ++ f x ∷ [] ≡ map f (take (i + 1) xs)
map_more f xs i x made inside is all = rw (all, to_here xs i x inside is, map-append f (take i xs) (x ∷ [])) refl

pub some_more :
    {X Y : Type 0} (f : X → Option Y) (xs : List X) (i : ℕ) (x : X) (y : Y) (made whole : List Y) → i < length xs →
    x ≡ get_or xs i x → f x ≡ Some y → made ++ filter_map f (drop i xs) ≡ whole →
    (made ++ y ∷ []) ++ filter_map f (drop (i + 1) xs) ≡ whole
some_more f xs i x y made whole inside is one all =
    append_assoc made (y ∷ []) (filter_map f (drop (i + 1) xs)) ∙ (rw (from_here xs i x inside is, one) at all)

pub none_more :
    {X Y : Type 0} (f : X → Option Y) (xs : List X) (i : ℕ) (x : X) (made whole : List Y) → i < length xs →
    x ≡ get_or xs i x → f x ≡ None → made ++ filter_map f (drop i xs) ≡ whole →
    made ++ filter_map f (drop (i + 1) xs) ≡ whole
none_more f xs i x made whole inside is none all = rw (from_here xs i x inside is, none) at all

pub kept_more :
    {X Y : Type 0} (f : X → Y) (p : X → Bool) (xs : List X) (i : ℕ) (x : X) (made whole : List Y) → i < length xs →
    x ≡ get_or xs i x → p x ≡ true → made ++ map f (filter p (drop i xs)) ≡ whole →
    (made ++ f x ∷ []) ++ map f (filter p (drop (i + 1) xs)) ≡ whole
kept_more f p xs i x made whole inside is kept all =
    append_assoc made (f x ∷ []) (map f (filter p (drop (i + 1) xs)))
    ∙ (rw (from_here xs i x inside is, kept) at all)

pub left_more :
    {X Y : Type 0} (f : X → Y) (p : X → Bool) (xs : List X) (i : ℕ) (x : X) (made whole : List Y) → i < length xs →
    x ≡ get_or xs i x → p x ≡ false → made ++ map f (filter p (drop i xs)) ≡ whole →
    made ++ map f (filter p (drop (i + 1) xs)) ≡ whole
left_more f p xs i x made whole inside is left all = rw (from_here xs i x inside is, left) at all

pub fold_map_more :
    {X Y S : Type 0} (step : S → Y → S) (f : X → Y) (xs : List X) (i : ℕ) (x : X) (made whole : S) → i < length xs →
    x ≡ get_or xs i x → fold step made (map f (drop i xs)) ≡ whole →
    fold step (step made (f x)) (map f (drop (i + 1) xs)) ≡ whole
fold_map_more step f xs i x made whole inside is all = rw (from_here xs i x inside is) at all

pub fold_flat_more :
    {X Y S : Type 0} (step : S → Y → S) (f : X → List Y) (xs : List X) (i : ℕ) (x : X) (made whole : S) →
    i < length xs → x ≡ get_or xs i x → fold step made (flat_map f (drop i xs)) ≡ whole →
    fold step (fold step made (f x)) (flat_map f (drop (i + 1) xs)) ≡ whole
fold_flat_more step f xs i x made whole inside is all =
    sym (fold-append step made (f x) (flat_map f (drop (i + 1) xs))) ∙ (rw (from_here xs i x inside is) at all)

-- what a peripheral more gives, judged by those before it
pub each_more :
    {X : Type 0} (f : List Peripheral → Peripheral → List X) (xs : List Peripheral) (i : ℕ) (p : Peripheral)
    (made whole : List X) → i < length xs → p ≡ get_or xs i p →
    made ++ each f (take i xs) (drop i xs) ≡ whole →
    (made ++ f (take i xs) p) ++ each f (take (i + 1) xs) (drop (i + 1) xs) ≡ whole
each_more f xs i p made whole inside is all =
    rw (to_here xs i p inside is)
    (append_assoc made (f (take i xs) p) (each f (take i xs ++ p ∷ []) (drop (i + 1) xs))
    ∙ (rw (from_here xs i p inside is) at all))

onto_more :
    (done more : List Wire) (rest : Result (List Wire) PlatFault) →
    onto done (rest >>= λ wires. Ok (more ++ wires)) ≡ onto (done ++ more) rest
onto_more done more (Ok wires) = ap Ok (sym (append_assoc done more wires))
onto_more done more (Err fault) = refl

-- the wires of an item more
pub items_wires_more :
    (f : PlacedItem → Result (List Wire) PlatFault) (xs : List PlacedItem) (i : ℕ) (x : PlacedItem)
    (more done : List Wire) (whole : Result (List Wire) PlatFault) → i < length xs → x ≡ get_or xs i x →
    f x ≡ Ok more → onto done (items_wires f (drop i xs)) ≡ whole →
    onto (done ++ more) (items_wires f (drop (i + 1) xs)) ≡ whole
items_wires_more f xs i x more done whole inside is made all =
    sym (onto_more done more (items_wires f (drop (i + 1) xs))) ∙ (rw (from_here xs i x inside is, made) at all)

-- the wires of a peripheral more
pub wires_from_more :
    (plic : Option PlicSize) (xs : List Peripheral) (i : ℕ) (p : Peripheral) (more done : List Wire)
    (whole : Result (List Wire) PlatFault) → i < length xs → p ≡ get_or xs i p →
    items_wires (placed_wires plic xs p.kind (devices_of (take i xs))) p.items ≡ Ok more →
    onto done (wires_from plic xs (take i xs) (drop i xs)) ≡ whole →
    onto (done ++ more) (wires_from plic xs (take (i + 1) xs) (drop (i + 1) xs)) ≡ whole
wires_from_more plic xs i p more done whole inside is made all =
    rw (to_here xs i p inside is)
    (sym (onto_more done more (wires_from plic xs (take i xs ++ p ∷ []) (drop (i + 1) xs)))
    ∙ (rw (from_here xs i p inside is, made) at all))

onto_front :
    (done : List Wire) (wire : Wire) (rest : Option (List Wire)) →
    onto_some done (in_front (Some wire) rest) ≡ onto_some (done ++ wire ∷ []) rest
onto_front done wire None = refl
onto_front done wire (Some wires) = ap Some (sym (append_assoc done (wire ∷ []) wires))

-- the wire of a line and a pin more
pub wired_more :
    (f : ℕ → ℕ → Option Wire) (lines pins : List ℕ) (i : ℕ) (wire : Wire) (done : List Wire)
    (whole : Option (List Wire)) → i < length lines → i < length pins →
    f (get_or lines i 0) (get_or pins i 0) ≡ Some wire →
    onto_some done (wired f (drop i lines) (drop i pins)) ≡ whole →
    onto_some (done ++ wire ∷ []) (wired f (drop (i + 1) lines) (drop (i + 1) pins)) ≡ whole
wired_more f lines pins i wire done whole inside_lines inside_pins made all =
    sym (onto_front done wire (wired f (drop (i + 1) lines) (drop (i + 1) pins)))
    ∙ (rw (drop_more lines i 0 inside_lines, drop_more pins i 0 inside_pins, made) at all)
