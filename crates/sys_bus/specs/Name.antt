-- The names of a platform's entries.
use Rattle.std.specs.Prelude.{ℕ, Bool, false, true, ◌==◌, List, count_by, filter, map}
use Rattle.std.specs.List.{list_all}
use Rattle.std.specs.Str.{bytes_eq}
use Rattle.lab_num.specs.Name.{is_identifier}
use Rattle.sys_bus.specs.declared.plan.NamedWhat.{NamedWhat}
use Rattle.sys_bus.specs.declared.plan.NamedWhat.TheVariants.{Cpu, Part}
use Rattle.sys_bus.specs.declared.plan.Named.{Named}

-- each name is an identifier: a letter, then letters, digits or `_`
abbrev pub are_names : List Named → Bool
are_names names = list_all (λ n. is_identifier n.name) names

-- each name stands there once
abbrev pub names_differ : List Named → Bool
names_differ names = list_all (λ n. count_by (λ other. bytes_eq other.name n.name) names == 1) names

abbrev pub is_processor : NamedWhat → Bool
is_processor Cpu = true
is_processor (Part kind) = false

-- the names of the processors, in the order of their entries
abbrev pub processors : List Named → List (List ℕ)
processors names = map (λ n. n.name) (filter (λ n. is_processor n.what) names)
