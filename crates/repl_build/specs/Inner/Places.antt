-- Where attributes stand among items, as a map has them by key.
use Rattle.std.specs.Prelude.{◌≡◌, ℕ, Bool, List, position, Option, Some, None, if◌then◌else◌}
use Rattle.std.specs.BTreeMap.{BTreeMap, get_by}
use Rattle.std.specs.Cmp.Lexicographic.{slice_cmp}
use Rattle.std.specs.Option.{option_or}
use Rattle.std.specs.Ordering.{nat_cmp}
use denote.Ref.{Bor}
use Rattle.repl_read.specs.declared.entry.ItemWhat.{ItemWhat}
use Rattle.repl_read.specs.declared.entry.ItemWhat.TheVariants.{Attribute, Wire}
use Rattle.repl_build.specs.declared.merge.PlacedItem.{PlacedItem}
use Rattle.repl_build.specs.Names.{has_key}

abbrev pub Places : Type 0
Places = BTreeMap (Bor (List ℕ)) ℕ

abbrev pub place : Places → List ℕ → Option ℕ
place places key = get_by (λ k. slice_cmp nat_cmp key k.now) places

-- each key has the place of its first attribute
abbrev pub HasPlaces : Places → List PlacedItem → Type 0
HasPlaces places items = (q : List ℕ) → place places q ≡ position (λ item. has_key q item.what) items

-- the place of a key after an item was put there, if it is an attribute of this key
abbrev pub with_place : Bool → Option ℕ → ℕ → Option ℕ
with_place is before at = if is then option_or before (Some at) else before

-- the place that an attribute has already
abbrev pub place_told : Places → ItemWhat → Option ℕ
place_told places (Attribute key value) = place places key
place_told places (Wire from to pins) = None
