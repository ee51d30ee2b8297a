-- Words that were met before, as a map has them.
use Rattle.std.specs.Prelude.{◌≡◌, ℕ, Bool, false, not, List, is_some}
use Rattle.std.specs.BTreeMap.{BTreeMap, get_by}
use Rattle.std.specs.Cmp.Lexicographic.{slice_cmp}
use Rattle.std.specs.List.{list_any}
use Rattle.std.specs.Ordering.{nat_cmp}
use denote.Ref.{Bor}
use Rattle.repl_read.specs.declared.entry.Entry.{Entry}
use Rattle.repl_read.specs.declared.entry.Head.{Head}
use Rattle.repl_read.specs.declared.entry.Head.TheVariants.{Using, Typed, Update}
use Rattle.repl_read.specs.declared.entry.Item.{Item}
use Rattle.repl_read.specs.declared.entry.ItemWhat.{ItemWhat}
use Rattle.repl_read.specs.declared.entry.ItemWhat.TheVariants.{Attribute, Wire}
use Rattle.repl_build.specs.Names.{has_key, is_typed}

abbrev pub Seen : Type 0
Seen = BTreeMap (Bor (List ℕ)) (Unit {0})

abbrev pub has_word : Seen → List ℕ → Bool
has_word seen word = is_some (get_by (λ k. slice_cmp nat_cmp word k.now) seen)

-- the words are the names that these entries give types
abbrev pub HasTyped : Seen → List Entry → Type 0
HasTyped seen entries = (q : List ℕ) → has_word seen q ≡ is_typed entries q

-- the words are the keys of these items
abbrev pub HasKeys : Seen → List Item → Type 0
HasKeys seen items = (q : List ℕ) → has_word seen q ≡ list_any (λ item. has_key q item.what) items

-- a name among them is given a type
abbrev pub types_again : Seen → Head → Bool
types_again seen (Typed name type_name place) = has_word seen name
types_again seen (Using file) = false
types_again seen (Update name) = false

-- a name that is not among them is given further items
abbrev pub updates_none : Seen → Head → Bool
updates_none seen (Update name) = not (has_word seen name)
updates_none seen (Using file) = false
updates_none seen (Typed name type_name place) = false

-- an attribute of a key among them
abbrev pub stands_again : Seen → ItemWhat → Bool
stands_again seen (Attribute key value) = has_word seen key
stands_again seen (Wire from to pins) = false
