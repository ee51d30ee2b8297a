-- The tests of the merged entries, each over all of them and their items in order.
use Rattle.std.specs.Prelude.{Bool, false, ◌||◌, List, [], is_none, Option}
use Rattle.repl_read.specs.declared.fault.PlatCause.{PlatCause}
use Rattle.repl_read.specs.declared.fault.PlatCause.TheVariants as cause
use Rattle.repl_read.specs.declared.fault.PlatFault.{PlatFault}
use Rattle.repl_read.specs.declared.fault.PlatFault.TheVariants.{At}
use Rattle.repl_build.specs.declared.merge.Peripheral.{Peripheral}
use Rattle.repl_build.specs.declared.merge.PlacedItem.{PlacedItem}
use Rattle.repl_build.specs.declared.rules.Rule.{Rule}
use Rattle.repl_build.specs.declared.rules.Rule.TheVariants.{Types, Attributes, Required, Values, Core, Counts, Apart}
use Rattle.repl_build.specs.declared.rules.Rule.TheVariants.{References}
use Rattle.repl_build.specs.Attributes.{is_unknown, is_refused}
use Rattle.repl_build.specs.Counts.{count_of, is_one_too_many}
use Rattle.repl_build.specs.declared.types.PeripheralType.TheVariants.{Cpu}
use Rattle.repl_build.specs.First.{fault_if, first_of, first_fault}
use Rattle.repl_build.specs.Places.{is_lacking, is_misplaced, collides}
use Rattle.repl_build.specs.Processors.{is_other_core, is_out_of_step}
use Rattle.repl_build.specs.References.{refers_to_none}

abbrev pub cause_of : Rule → PlatCause
cause_of Types = cause.TypeName
cause_of Attributes = cause.Attribute
cause_of Required = cause.Missing
cause_of Values = cause.Value
cause_of Core = cause.Core
cause_of Counts = cause.Count
cause_of Apart = cause.Overlap
cause_of References = cause.Reference

-- a peripheral breaks the rule, after those before it
abbrev pub breaks : Rule → List Peripheral → Peripheral → Bool
breaks Types before p = is_none p.kind
breaks Attributes before p = false
breaks Required before p = is_lacking p
breaks Values before p = is_misplaced p || is_out_of_step before p
breaks Core before p = false
breaks Counts before p = is_one_too_many before p
breaks Apart before p = collides before p
breaks References before p = false

-- an item of a peripheral breaks the rule, after the peripherals before it and among all
abbrev pub item_breaks : Rule → List Peripheral → List Peripheral → Peripheral → PlacedItem → Bool
item_breaks Types all before p item = false
item_breaks Attributes all before p item = is_unknown p.kind item.what
item_breaks Required all before p item = false
item_breaks Values all before p item = is_refused p.kind (count_of before Cpu) p.at item.what
item_breaks Core all before p item = is_other_core before item.what
item_breaks Counts all before p item = false
item_breaks Apart all before p item = false
item_breaks References all before p item = refers_to_none all item.what

abbrev pub item_fault : Rule → List Peripheral → List Peripheral → Peripheral → List PlacedItem → PlacedItem →
    Option PlatFault
item_fault rule all before p items item =
    fault_if (item_breaks rule all before p item) (At item.file item.line (cause_of rule))

abbrev pub items_fault : Rule → List Peripheral → List Peripheral → Peripheral → Option PlatFault
items_fault rule all before p = first_fault (item_fault rule all before p) [] p.items

-- a peripheral, and then its items
abbrev pub peripheral_fault : Rule → List Peripheral → List Peripheral → Peripheral → Option PlatFault
peripheral_fault rule all before p =
    first_of (fault_if (breaks rule before p) (At p.file p.line (cause_of rule))) (items_fault rule all before p)

-- the first that breaks a rule
abbrev pub broken : Rule → List Peripheral → Option PlatFault
broken rule all = first_fault (peripheral_fault rule all) [] all
