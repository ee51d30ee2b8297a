-- The names by which peripherals refer to one another.
use Rattle.std.specs.Prelude.{ℕ, Bool, false, not, ◌&&◌, ◌||◌, List, codes}
use Rattle.std.specs.List.{list_any}
use Rattle.std.specs.Str.{bytes_eq}
use Rattle.repl_read.specs.declared.entry.ItemWhat.{ItemWhat}
use Rattle.repl_read.specs.declared.entry.ItemWhat.TheVariants.{Attribute, Wire}
use Rattle.repl_read.specs.declared.entry.Value.TheVariants.{Name}
use Rattle.repl_build.specs.declared.merge.Peripheral.{Peripheral}
use Rattle.repl_build.specs.declared.types.PeripheralType.{PeripheralType}
use Rattle.repl_build.specs.declared.types.PeripheralType.TheVariants.{Cpu, Clint, Plic}
use Rattle.repl_build.specs.Types.{is_type}

-- a peripheral of the type has the name
abbrev pub names_a : PeripheralType → List Peripheral → List ℕ → Bool
names_a type_ peripherals name = list_any (λ p. is_type type_ p.kind && bytes_eq p.name name) peripherals

-- test 10: a timeProvider that is no CLINT of the platform, or a wire's destination that is neither processor nor PLIC
abbrev pub refers_to_none : List Peripheral → ItemWhat → Bool
refers_to_none all (Attribute key (Name name)) = bytes_eq key (codes "timeProvider") && not (names_a Clint all name)
refers_to_none all (Attribute key value) = false
refers_to_none all (Wire from to pins) = not (names_a Cpu all to || names_a Plic all to)
