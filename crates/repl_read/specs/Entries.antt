-- What each entry of a text meets.
use Rattle.std.specs.Prelude.{nat_le, ◌&&◌, Bool, true, false, List}
use Rattle.std.specs.List.{list_all}
use Rattle.repl_read.specs.declared.entry.Ends.{Ends}
use Rattle.repl_read.specs.declared.entry.Ends.TheVariants.{Absent, Irq, Spans}
use Rattle.repl_read.specs.declared.entry.Entry.{Entry}
use Rattle.repl_read.specs.declared.entry.Head.{Head}
use Rattle.repl_read.specs.declared.entry.Head.TheVariants.{Using, Typed, Update}
use Rattle.repl_read.specs.declared.entry.Item.{Item}
use Rattle.repl_read.specs.declared.entry.ItemWhat.{ItemWhat}
use Rattle.repl_read.specs.declared.entry.ItemWhat.TheVariants.{Attribute, Wire}
use Rattle.repl_read.specs.declared.entry.Span.{Span}
use Rattle.lab_num.specs.Name.{is_identifier}
use Rattle.repl_read.specs.Words.{is_dotted_name}

abbrev pub is_span : Span → Bool
is_span span = nat_le span.first span.last

abbrev pub is_source : Ends → Bool
is_source Absent = true
is_source Irq = true
is_source (Spans spans) = list_all is_span spans

abbrev pub are_pins : Ends → Bool
are_pins Absent = false
are_pins Irq = false
are_pins (Spans spans) = list_all is_span spans

abbrev pub is_item : ItemWhat → Bool
is_item (Attribute key value) = is_identifier key
is_item (Wire from to pins) = is_source from && is_identifier to && are_pins pins

abbrev pub is_head : Head → Bool
is_head (Using file) = true
is_head (Typed name kind place) = is_identifier name && is_dotted_name kind
is_head (Update name) = is_identifier name

abbrev pub are_items : List Item → Bool
are_items items = list_all (λ item. is_item item.what) items

-- names have their form, a wire has pins, and its numbers and ranges do not fall
abbrev pub is_entry : Entry → Bool
is_entry entry = is_head entry.head && are_items entry.items
