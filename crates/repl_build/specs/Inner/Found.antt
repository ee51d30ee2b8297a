-- Entries with further items, as a map has them by name.
use Rattle.std.specs.Prelude.{◌≡◌, ℕ, List, [], ◌∷◌, if◌then◌else◌, filter, map, Vec}
use Rattle.std.specs.BTreeMap.{BTreeMap, get_by}
use Rattle.std.specs.Cmp.Lexicographic.{slice_cmp}
use Rattle.std.specs.Option.{option_map_or}
use Rattle.std.specs.Ordering.{nat_cmp}
use denote.Ref.{Bor}
use Rattle.repl_read.specs.declared.entry.Entry.{Entry}
use Rattle.repl_build.specs.Merge.{updates}

-- an entry, if it has further items of the name
abbrev pub update_of : List ℕ → Entry → List Entry
update_of name entry = if updates name entry.head then entry ∷ [] else []

-- the entries with further items of a name
abbrev pub found : {Z : Type 0} → BTreeMap (Bor (List ℕ)) (Vec (Bor Entry) Z) → List ℕ → List Entry
found groups name =
    option_map_or (λ group. map (λ entry. entry.now) group.items) (get_by (λ k. slice_cmp nat_cmp name k.now) groups) []

-- the entries with further items are those of the whole list, in its order
abbrev pub HasUpdates : {Z : Type 0} → BTreeMap (Bor (List ℕ)) (Vec (Bor Entry) Z) → List Entry → Type 0
HasUpdates groups entries = (q : List ℕ) → found groups q ≡ filter (λ entry. updates q entry.head) entries
