-- The one list of given items that rises strictly by key.
use Rattle.std.specs.Prelude.{List, [], ◌∷◌, map, if◌then◌else◌}
use Rattle.std.specs.List.Sorted.{IsPermutation, IsStrictlySortedBy}
use Rattle.std.specs.Ordering.{is_lt}
use Rattle.lab_num.specs.declared.key.Key.{Key}
use Rattle.lab_num.specs.Key.{key_cmp}

-- `listed` has the same members as `items`, and each has a lower key than all that follow it
pub record IsListing {T : Type 0} (key : T → Key) (items listed : List T) : Type 0 where
  pub members : IsPermutation items listed
  pub rising : IsStrictlySortedBy key_cmp (map key listed)

-- an item put before the first of a list that has a higher key
abbrev pub insert_by_key : {T : Type 0} → (T → Key) → T → List T → List T
insert_by_key key item [] = item ∷ []
insert_by_key key item (x ∷ xs) =
    if is_lt (key_cmp (key item) (key x)) then item ∷ x ∷ xs else x ∷ insert_by_key key item xs

-- the items in rising order of key
unfoldable pub listing : {T : Type 0} → (T → Key) → List T → List T
listing key [] = []
listing key (x ∷ xs) = insert_by_key key x (listing key xs)
