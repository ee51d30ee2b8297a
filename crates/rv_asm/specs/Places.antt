-- The places of labels in a map.
use Rattle.std.specs.Prelude.{◌≡◌, ℕ, List, Option, Some, None, Bool, false, if◌then◌else◌}
use Rattle.std.specs.declared.hash.FoldHasher.{FoldHasher}
use Rattle.std.specs.declared.hash.BuildHasherDefault.{BuildHasherDefault}
use Rattle.std.specs.HashMap.{HashMap, get_by}
use Rattle.std.specs.Option.{option_or}
use Rattle.std.specs.Str.{bytes_eq}
use denote.Ref.{Bor}

-- a map from labels to addresses
abbrev pub Labels : Type 0
Labels = HashMap (Bor (List ℕ)) ℕ (BuildHasherDefault FoldHasher)

-- the place of the label of this name
abbrev pub place_in : Labels → List ℕ → Option ℕ
place_in labels name = get_by (λ k. bytes_eq name k.now) labels

-- each name has this place in the map
abbrev pub HasPlaces : Labels → (List ℕ → Option ℕ) → Type 0
HasPlaces labels places = (name : List ℕ) → place_in labels name ≡ places name

-- whether a label is this name
abbrev pub is_label : List ℕ → Option (List ℕ) → Bool
is_label name None = false
is_label name (Some label) = bytes_eq label name

-- these places, and this address for a label that has none
abbrev pub with_label : (List ℕ → Option ℕ) → Option (List ℕ) → ℕ → List ℕ → Option ℕ
with_label places label address name = option_or (places name) (if is_label name label then Some address else None)
