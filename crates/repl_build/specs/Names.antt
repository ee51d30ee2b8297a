-- What the entries are called: each name has one type, an attribute stands once in an entry, and further items are of a
-- name that was given its type before.
use Rattle.std.specs.Prelude.{ℕ, Bool, true, false, not, List, [], Option}
use Rattle.std.specs.List.{list_all, list_any}
use Rattle.std.specs.Str.{bytes_eq}
use Rattle.repl_read.specs.declared.entry.Entry.{Entry}
use Rattle.repl_read.specs.declared.entry.Head.{Head}
use Rattle.repl_read.specs.declared.entry.Head.TheVariants.{Using, Typed, Update}
use Rattle.repl_read.specs.declared.entry.Item.{Item}
use Rattle.repl_read.specs.declared.entry.ItemWhat.{ItemWhat}
use Rattle.repl_read.specs.declared.entry.ItemWhat.TheVariants.{Attribute, Wire}
use Rattle.repl_read.specs.declared.fault.PlatCause.TheVariants.{Twice, Reference}
use Rattle.repl_read.specs.declared.fault.PlatFault.{PlatFault}
use Rattle.repl_read.specs.declared.fault.PlatFault.TheVariants.{At}
use Rattle.lab_num.specs.Name.{is_identifier}
use Rattle.repl_build.specs.First.{fault_if, first_of, first_fault}

-- the name of an entry that has a type is a name of a platform
abbrev pub is_named : Head → Bool
is_named (Typed name type_name place) = is_identifier name
is_named (Using file) = true
is_named (Update name) = true

abbrev pub are_named : List Entry → Bool
are_named entries = list_all (λ entry. is_named entry.head) entries

-- the head gives the name a type
abbrev pub types_name : List ℕ → Head → Bool
types_name name (Typed n type_name place) = bytes_eq n name
types_name name (Using file) = false
types_name name (Update n) = false

-- some entry gives the name a type
abbrev pub is_typed : List Entry → List ℕ → Bool
is_typed entries name = list_any (λ entry. types_name name entry.head) entries

-- a name that is typed before
abbrev pub repeats_name : List Entry → Head → Bool
repeats_name before (Typed name type_name place) = is_typed before name
repeats_name before (Using file) = false
repeats_name before (Update name) = false

abbrev pub has_key : List ℕ → ItemWhat → Bool
has_key key (Attribute k value) = bytes_eq k key
has_key key (Wire from to pins) = false

-- an attribute that stands before in its entry
abbrev pub repeats_key : List Item → ItemWhat → Bool
repeats_key before (Attribute key value) = list_any (λ item. has_key key item.what) before
repeats_key before (Wire from to pins) = false

abbrev pub repeated_item : ℕ → List Item → Item → Option PlatFault
repeated_item file before item = fault_if (repeats_key before item.what) (At file item.line Twice)

-- the first name or attribute of an entry that stands there twice
abbrev pub repeated_in : List Entry → Entry → Option PlatFault
repeated_in before entry =
    first_of (fault_if (repeats_name before entry.head) (At entry.file entry.line Twice))
    (first_fault (repeated_item entry.file) [] entry.items)

-- test 1: a typed entry whose name is typed before, or an attribute twice in one entry
abbrev pub repeated : List Entry → Option PlatFault
repeated entries = first_fault repeated_in [] entries

-- further items of a name that is not typed before
abbrev pub lacks_type : List Entry → Head → Bool
lacks_type before (Update name) = not (is_typed before name)
lacks_type before (Using file) = false
lacks_type before (Typed name type_name place) = false

abbrev pub untyped_at : List Entry → Entry → Option PlatFault
untyped_at before entry = fault_if (lacks_type before entry.head) (At entry.file entry.line Reference)

-- test 2: an updating entry whose name is not typed before
abbrev pub untyped : List Entry → Option PlatFault
untyped entries = first_fault untyped_at [] entries
