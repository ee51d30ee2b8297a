-- Peripherals: the entries that have types, each with the further items that other entries give it.
use Rattle.std.specs.Prelude.{ℕ, Bool, false, List, [], ◌∷◌, ◌++◌, map, position, slice_set}
use Rattle.std.specs.Prelude.{Option, Some, None, if◌then◌else◌}
use Rattle.std.specs.List.{flat_map, fold}
use Rattle.std.specs.Str.{bytes_eq}
use Rattle.repl_read.specs.declared.entry.Entry.{Entry}
use Rattle.repl_read.specs.declared.entry.Head.{Head}
use Rattle.repl_read.specs.declared.entry.Head.TheVariants.{Using, Typed, Update}
use Rattle.repl_read.specs.declared.entry.Item.{Item}
use Rattle.repl_read.specs.declared.entry.ItemWhat.{ItemWhat}
use Rattle.repl_read.specs.declared.entry.ItemWhat.TheVariants.{Attribute, Wire}
use Rattle.repl_read.specs.declared.entry.Place.{Place}
use Rattle.repl_build.specs.declared.merge.Peripheral.{Peripheral}
use Rattle.repl_build.specs.declared.merge.PlacedItem.{PlacedItem}
use Rattle.repl_build.specs.Names.{has_key}
use Rattle.repl_build.specs.Types.{type_of}

-- items with the file in which they stand
abbrev pub placed : ℕ → Item → PlacedItem
placed file item = record { file = file; line = item.line; what = item.what }

abbrev pub own_items : Entry → List PlacedItem
own_items entry = map (placed entry.file) entry.items

-- the same attribute
abbrev pub has_same_key : ItemWhat → PlacedItem → Bool
has_same_key (Attribute key value) item = has_key key item.what
has_same_key (Wire from to pins) item = false

abbrev pub put_at : Option ℕ → List PlacedItem → PlacedItem → List PlacedItem
put_at (Some i) items further = slice_set items i further
put_at None items further = items ++ further ∷ []

-- with a further item: an attribute takes the place of the one that was there, and all else comes to the end
abbrev pub with_item : List PlacedItem → PlacedItem → List PlacedItem
with_item items further = put_at (position (has_same_key further.what) items) items further

-- the entry has further items of the name
abbrev pub updates : List ℕ → Head → Bool
updates name (Update n) = bytes_eq n name
updates name (Using file) = false
updates name (Typed n type_name place) = false

abbrev pub further_of : List ℕ → Entry → List PlacedItem
further_of name entry = if updates name entry.head then own_items entry else []

-- the further items of a name, in the order of the entries
abbrev pub further_items : List Entry → List ℕ → List PlacedItem
further_items entries name = flat_map (further_of name) entries

abbrev pub merged_items : List Entry → List ℕ → Entry → List PlacedItem
merged_items entries name entry = fold with_item (own_items entry) (further_items entries name)

abbrev pub peripheral : List Entry → Entry → List ℕ → List ℕ → Place → Peripheral
peripheral entries entry name type_name place =
    record {
      file = entry.file;
      line = entry.line;
      name = name;
      kind = type_of type_name;
      at = place;
      items = merged_items entries name entry;
    }

abbrev pub peripheral_by : List Entry → Entry → Head → List Peripheral
peripheral_by entries entry (Typed name type_name place) = peripheral entries entry name type_name place ∷ []
peripheral_by entries entry (Using file) = []
peripheral_by entries entry (Update name) = []

abbrev pub peripheral_of : List Entry → Entry → List Peripheral
peripheral_of entries entry = peripheral_by entries entry entry.head

-- the peripherals, in the order of the entries that give them their types
abbrev pub merged : List Entry → List Peripheral
merged entries = flat_map (peripheral_of entries) entries
